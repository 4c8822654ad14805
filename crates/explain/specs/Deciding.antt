-- What decides that a line is refused.
use Rattle.std.specs.Prelude.{◌≡◌, ◌≢◌, ⊤, ℕ, ◌-◌, ◌<◌, min, false, List, slice_get, Result, Ok, Some}
use Rattle.rmm_spec.specs.declared.accepted.Accepted.{Accepted}
use Rattle.rmm_spec.specs.declared.accepted.Accepted.TheVariants.{Done, Reaches}
use Rattle.rmm_spec.specs.declared.call.Call.{Call}
use Rattle.rmm_spec.specs.declared.call.Call.TheVariants as call
use Rattle.rmm_spec.specs.declared.command.Command.{Command}
use Rattle.rmm_spec.specs.declared.condition.Condition.{Condition}
use Rattle.rmm_spec.specs.declared.refusal.Refusal.{Refusal}
use Rattle.rmm_spec.specs.declared.reply.Reply.{Reply}
use Rattle.rmm_spec.specs.declared.reply.Reply.TheVariants as reply
use Rattle.rmm_spec.specs.Call.{call_of}
use Rattle.rmm_spec.specs.Lookup.{rec_at, rec_inside}
use Rattle.rmm_spec.specs.State.{State}
use Rattle.reasons.specs.declared.source.Source.{Source}
use Rattle.reasons.specs.declared.source.Source.TheVariants as source
use Rattle.reasons.specs.declared.test.Test.{Test}
use Rattle.reasons.specs.Law.{IsFirst, IsOfWords, refused_for}
use Rattle.reasons.specs.Lists.{conditions}
use Rattle.reasons.specs.Tests.{passes, stands}
use Rattle.reasons.specs.declared.explanation.Deciding.{Deciding}
use Rattle.reasons.specs.declared.explanation.Deciding.TheVariants as deciding
use Rattle.reasons.specs.declared.explanation.WrongWord.{WrongWord}
use Rattle.explain.specs.Facts.{IsFact}
use Rattle.explain.specs.declared.watch.Watch.{Watch}
use Rattle.explain.specs.declared.watch.Watch.TheVariants as watch

-- ---- conditions

-- The test is that of the first of the command's conditions that fails, which has the name that the command is refused for. It fails.
abbrev pub IsFailing : State → ℕ → Call → Result Accepted Refusal → Test → Type 0
IsFailing s cpu given specified t =
    (name : Condition) × (refused_for specified ≡ Some name) × IsFirst s (conditions cpu (rec_inside s cpu) given) name t × (passes s t ≡ false)

-- ---- words

-- the first word in which the claimed words aren't the specified ones
pub record IsFirstWrong (claimed specified : List ℕ) (word : WrongWord) : Type 0 where
  pub is_claimed : slice_get claimed word.index ≡ word.claimed
  pub is_specified : slice_get specified word.index ≡ word.specified
  pub apart : word.claimed ≢ word.specified
  pub first : (i : ℕ) → i < word.index → slice_get claimed i ≡ slice_get specified i

-- of an end that is left to the monitor, the claimed reply has no or another one, or a word more
abbrev pub IsWrongWord : Accepted → List ℕ → WrongWord → Type 0
IsWrongWord (Done words change) claimed word = IsFirstWrong claimed words.items word
IsWrongWord (Reaches stretch) claimed word = slice_get claimed word.index ≡ word.claimed

-- the claimed words aren't those of what is done
abbrev pub IsApart : Accepted → List ℕ → Type 0
IsApart (Done words change) claimed = words.items ≢ claimed
IsApart (Reaches stretch) claimed = ⊤

-- what the words of a command's reply are read from
abbrev pub words_source : State → ℕ → Call → Source
words_source s cpu (call.DataDestroy rd ipa) = source.Walk rd ipa 3
words_source s cpu (call.RttRemove removal rd ipa level) = source.Walk rd ipa (min (level - 1) 3)
words_source s cpu (call.RttReadEntry rd ipa level) = source.Walk rd ipa (min level 3)
words_source s cpu (call.RttInitRipas rd base top) = source.Walk rd base 3
words_source s cpu (call.RttSetRipas rd rec base top) = source.Walk rd base 3
words_source s cpu (call.RecEnter rec) = source.Request rec
words_source s cpu (call.MeasurementRead index) = source.Measured (rec_at s (rec_inside s cpu)).owner index
words_source s cpu call.RealmConfig = source.Space (rec_at s (rec_inside s cpu)).owner
words_source s cpu (call.IpaStateGet ipa) = source.Walk (rec_at s (rec_inside s cpu)).owner ipa 3
words_source s cpu call.Exit = source.Leaving (rec_inside s cpu)
words_source s cpu _ = source.Nothing

-- ---- what decides

-- the condition of the test fails, which is watched where it stands
abbrev pub IsConditionOf : State → Test → Deciding → Watch → Type 0
IsConditionOf s t (deciding.Condition read) (watch.Condition other standing) = (other ≡ t) × (standing ≡ stands s t) × IsFact s t read
IsConditionOf s t _ _ = ⊥

-- A condition is the first that fails, and its words are the command's.
abbrev pub IsDecision : State → ℕ → Command → Result Accepted Refusal → Reply → Deciding → Watch → Type 0
IsDecision s cpu command specified claimed (deciding.Condition read) (watch.Condition t standing) =
    IsFailing s cpu (call_of command) specified t × IsOfWords command.words.items t × (standing ≡ stands s t) × IsFact s t read
IsDecision s cpu command (Ok accepted) (reply.Err status index) deciding.Accepted (watch.Accepted other given) = (other ≡ cpu) × (given ≡ command)
IsDecision s cpu command (Ok accepted) reply.Misplaced deciding.Accepted (watch.Accepted other given) = (other ≡ cpu) × (given ≡ command)
IsDecision s cpu command (Ok accepted) (reply.Ok words) (deciding.Word word) (watch.Read source) =
    IsWrongWord accepted words.items word × (source ≡ words_source s cpu (call_of command))
IsDecision s cpu command specified claimed _ _ = ⊥
