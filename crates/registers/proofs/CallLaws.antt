-- What calls do to registers.
use Rattle.std.proofs.Common.{◌≡◌, ◌≢◌, ℕ, Bool, false, List, Option, None, Some, inl, inr, refl, sym, ap}
use Rattle.std.proofs.lemmas.Bool.{true≢false}
use Rattle.std.proofs.Math.Bool.{and-false}
use Rattle.std.proofs.lemmas.Bool.Decides.{eqb_tells}
use Rattle.std.proofs.lemmas.Option.{none-some}
use Rattle.rmm_spec.specs.declared.call.Call.{Call}
use Rattle.rmm_spec.specs.declared.call.Call.TheVariants as call
use Rattle.rmm_spec.specs.declared.function_id.FunctionId.{FunctionId}
use Rattle.rmm_spec.specs.declared.function_id.FunctionId.TheVariants as function
use Rattle.rmm_spec.specs.declared.reply.Reply.{Reply}
use Rattle.rmm_spec.specs.declared.reply.Reply.TheVariants as reply
use Rattle.rmm_spec.specs.Call.{call_from}
use Rattle.verdict_laws.specs.Registers.{Register, RegisterCall, done_call, entered_after, is_mine, register_call}
use Rattle.registers.specs.Calls.{AsksForNone, DoesNothing, IsCarriedOut, is_followed}
use Rattle.registers.specs.Owners.{is_owner, mine_at, owner_in, owner_of, rd_at, register_at}

-- a call of a function that isn't followed does nothing
unfollowed-done : (f : FunctionId) (words : List ℕ) → is_followed f ≡ false → (register : Register) (mine : ℕ → Bool) (entered : Option ℕ)
    → register_call register mine entered (call_from f words) ≡ None
unfolding register_call call_from
unfollowed-done function.RealmCreate words apart register mine entered = absurd (true≢false apart)
unfollowed-done function.RecEnter words apart register mine entered = absurd (true≢false apart)
unfollowed-done function.MeasurementRead words apart register mine entered = absurd (true≢false apart)
unfollowed-done function.MeasurementExtend words apart register mine entered = absurd (true≢false apart)
unfollowed-done _ words apart register mine entered = refl

unfollowed-entered : (f : FunctionId) (words : List ℕ) (given : Reply) → is_followed f ≡ false → (old : Option ℕ)
    → entered_after old (call_from f words) given ≡ old
unfolding call_from
unfollowed-entered function.RealmCreate words given apart old = absurd (true≢false apart)
unfollowed-entered function.RecEnter words given apart old = absurd (true≢false apart)
unfollowed-entered function.MeasurementRead words given apart old = absurd (true≢false apart)
unfollowed-entered function.MeasurementExtend words given apart old = absurd (true≢false apart)
unfollowed-entered _ words given apart old = refl

pub DoesNothing-unfollowed : (f : FunctionId) (words : List ℕ) (given : Reply) → is_followed f ≡ false → DoesNothing (call_from f words) given
DoesNothing-unfollowed f words given apart = record {
  done = by given;
  entered = unfollowed-entered f words given apart;
}
  where
    by : (given : Reply) (register : Register) (mine : ℕ → Bool) (entered : Option ℕ)
        → done_call register mine entered (call_from f words) given ≡ None
    by (reply.Ok answer) register mine entered = unfollowed-done f words apart register mine entered
    by (reply.Err status index) register mine entered = refl
    by reply.Misplaced register mine entered = refl

-- a call that isn't refused does what it does
pub done_call-ok : (register : Register) (mine : ℕ → Bool) (entered : Option ℕ) (made : Call) (given : Reply) → IsCarriedOut given
    → done_call register mine entered made given ≡ register_call register mine entered made
done_call-ok register mine entered made (reply.Ok words) ok = refl
done_call-ok register mine entered made (reply.Err status index) ok = absurd ok
done_call-ok register mine entered made reply.Misplaced ok = absurd ok

-- and one that does something isn't refused
pub done_call-some : (register : Register) (mine : ℕ → Bool) (entered : Option ℕ) (made : Call) (given : Reply) (also : RegisterCall)
    → Some also ≡ done_call register mine entered made given → IsCarriedOut given
done_call-some register mine entered made (reply.Ok words) also is = tt
done_call-some register mine entered made (reply.Err status index) also is = absurd (none-some also (sym is))
done_call-some register mine entered made reply.Misplaced also is = absurd (none-some also (sym is))

-- a call of another function asks for no REC
pub AsksForNone-other : (f : FunctionId) (words : List ℕ) → f ≢ function.RecCreate → AsksForNone (call_from f words)
unfolding call_from
AsksForNone-other function.RecCreate words other = absurd (other refl)
AsksForNone-other _ words other = tt

-- ---- whose register

not_owner : (found : Option ℕ) (rd : ℕ) → found ≢ Some rd → is_owner found rd ≡ false
not_owner None rd apart = refl
not_owner (Some owner) rd apart = elim (eqb_tells owner rd) [
  | inl same ↦ absurd (apart (ap (λ (x : ℕ). Some x) same.1))
  | inr differs ↦ differs.0
]

-- a CPU that runs another realm's REC, or none
not_mine : (owners : List (Option ℕ)) (entered : Option ℕ) (slot : ℕ) → owner_of owners entered ≢ Some (rd_at slot)
    → is_mine (mine_at owners slot) entered ≡ false
not_mine owners None slot apart = refl
not_mine owners (Some rec) slot apart = not_owner (owner_in owners rec) (rd_at slot) apart

-- another realm's registers aren't begun
pub other_realm : (owners : List (Option ℕ)) (entered : Option ℕ) (slot rd root width level vmid algo : ℕ) → Some rd ≢ Some (rd_at slot)
    → register_call (register_at slot) (mine_at owners slot) entered (call.RealmCreate rd root width level vmid algo) ≡ None
unfolding register_call
other_realm owners entered slot rd root width level vmid algo apart = rw (not_owner (Some rd) (rd_at slot) apart) refl

-- nor extended
pub other_extended : (owners : List (Option ℕ)) (entered : Option ℕ) (slot index size : ℕ) (values : List ℕ)
    → owner_of owners entered ≢ Some (rd_at slot)
    → register_call (register_at slot) (mine_at owners slot) entered (call.MeasurementExtend index size values) ≡ None
unfolding register_call
other_extended owners entered slot index size values apart = rw (not_mine owners entered slot apart, and-false) refl

-- nor read
pub other_read : (owners : List (Option ℕ)) (entered : Option ℕ) (slot index : ℕ) → owner_of owners entered ≢ Some (rd_at slot)
    → register_call (register_at slot) (mine_at owners slot) entered (call.MeasurementRead index) ≡ None
unfolding register_call
other_read owners entered slot index apart = rw (not_mine owners entered slot apart, and-false) refl

-- nor is anything done by another call
pub other_call : (register : Register) (mine : ℕ → Bool) (entered : Option ℕ) (made : Call)
    → ((rd root width level vmid algo : ℕ) → made ≢ call.RealmCreate rd root width level vmid algo)
    → ((index : ℕ) → made ≢ call.MeasurementRead index)
    → ((index size : ℕ) (values : List ℕ) → made ≢ call.MeasurementExtend index size values)
    → register_call register mine entered made ≡ None
unfolding register_call
other_call register mine entered (call.RealmCreate rd root width level vmid algo) begins reads extends =
    absurd (begins rd root width level vmid algo refl)
other_call register mine entered (call.MeasurementRead index) begins reads extends = absurd (reads index refl)
other_call register mine entered (call.MeasurementExtend index size values) begins reads extends = absurd (extends index size values refl)
other_call register mine entered _ begins reads extends = refl
