-- Lemmas on the job of files. Proofs of the crates above cite only these.
pub use Rattle.job_loading.proofs.JobsOfTexts.{job_of_texts}
