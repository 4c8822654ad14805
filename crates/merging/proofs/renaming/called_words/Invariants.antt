use Rattle.std.proofs.Common.{◌≡◌, ◌++◌, drop, take, length}
use Rattle.merging.specs.Names.{called_words}
use Rattle.merging.proofs.renaming.called_words.Given as goal

abbrev pub invariant-loop-place : goal.invariant-loop-place
invariant-loop-place l = record {
  so_far : take l.place l.words ++ called_words l.names l.granules l.roles l.place (drop l.place l.given)
      ≡ called_words l.names l.granules l.roles 0 l.given;
  counted : length l.words ≡ 10;
}
