-- The values of options.
use Rattle.std.specs.Prelude.{◌≡◌, Some, codes}
use Rattle.clap.specs.Matches.{first_value, found_of}
use Rattle.clap.specs.declared.parser.matches.ArgMatches.{ArgMatches}
use Rattle.fault_model.specs.declared.Model.{Model}
use Rattle.report.specs.RunIdentity.{model_name}

-- the command line names the model
abbrev pub NamesModel : ArgMatches → Model → Type 0
NamesModel matches m = first_value (found_of matches) (codes "model") ≡ Some (model_name m)
