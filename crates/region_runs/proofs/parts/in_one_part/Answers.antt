use Rattle.region_runs.proofs.PartsOfClasses.{one_part}
use Rattle.region_runs.proofs.parts.in_one_part.Goals as goal

pub returns : goal.returns
returns c = λ job parts class together some lt. one_part job parts class together some lt
