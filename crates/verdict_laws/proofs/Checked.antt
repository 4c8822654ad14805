-- What is known of a check's run, line by line, handed on to searches that go on from there.
pub use Rattle.checker.proofs.Faults.{IsRefused-from_step}
pub use Rattle.checker.proofs.Progress.{Passes-push}
