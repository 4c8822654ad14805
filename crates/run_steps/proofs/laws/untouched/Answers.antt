-- Case by case.
use Rattle.run_steps.proofs.UntouchedLaws.{keeps_untouched}
use Rattle.run_steps.proofs.laws.untouched.Goals as goal

pub returns-clause-tag : goal.returns-clause-tag
returns-clause-tag c s change granule none = (keeps_untouched s change granule none).tag

pub returns-clause-realm : goal.returns-clause-realm
returns-clause-realm c s change granule none = (keeps_untouched s change granule none).realm

pub returns-clause-rec : goal.returns-clause-rec
returns-clause-rec c s change granule none = (keeps_untouched s change granule none).rec
