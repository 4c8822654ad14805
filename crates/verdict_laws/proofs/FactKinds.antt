-- What steps make, leave and deny of a fact, by its kind.
use Rattle.verdict_laws.proofs.Common.{◌≡◌, ℕ, true, false, arith, refl, Command, Reply, call_of, Config, is_accepted, IsSound, State, opening, Step, both_ways, Fact, holds}
use Rattle.std.proofs.lemmas.Bool.{le-leb}
use Rattle.verdict_laws.specs.declared.facts.Fact.TheVariants.{NewRealm, Tagged, Covered, Wide, SoleVmid, PartOf, Unassigned, UnassignedRam, Assigned, HasRipas, Activated, OwnedBy, Runnable, Idle, RunsOn, AsksFrom, RunsOrAsksWithin, RunsOrAsksTo}
use Rattle.verdict_laws.specs.Denying.{denies}
use Rattle.verdict_laws.specs.Facts.{begins, makes, may_end}
use Rattle.verdict_laws.proofs.AskingFacts.{asking-denied, asking-left, asking-made, to-left, to-made}
use Rattle.verdict_laws.proofs.EntryFacts.{entry-denied, entry-left, entry-made}
use Rattle.verdict_laws.proofs.PageFacts.{page-denied, page-left, page-made}
use Rattle.verdict_laws.proofs.PartFacts.{part-left, part-made}
use Rattle.verdict_laws.proofs.RamFacts.{ram-denied, ram-left, ram-made}
use Rattle.verdict_laws.proofs.RealmFacts.{realm-denied, realm-left, realm-made}
use Rattle.verdict_laws.proofs.RecFacts.{from-left, from-made, idle-left, idle-made, owned-left, owned-made, runnable-left, runnable-made, runs_or_asks-asking}
use Rattle.verdict_laws.proofs.RipasFacts.{ripas-denied, ripas-left, ripas-made}
use Rattle.verdict_laws.proofs.RunFacts.{run-denied, run-left, run-made}
use Rattle.verdict_laws.proofs.RunningFacts.{running-denied, running-left, running-made}
use Rattle.verdict_laws.proofs.TableFacts.{table-denied, table-left, table-made}
use Rattle.verdict_laws.proofs.TagFacts.{tag-denied, tag-left, tag-made}
use Rattle.verdict_laws.proofs.VmidFacts.{vmid-left, vmid-made, vmid-opening}
use Rattle.verdict_laws.proofs.WideFacts.{wide-denied, wide-left, wide-made}

-- a fact that begins so holds in the opening
pub holds-opening : (fact : Fact) (config : Config) → begins fact ≡ true → holds fact (opening config) ≡ true
unfolding opening
holds-opening (NewRealm rd) config is = refl
holds-opening (Tagged granule tag) config is = is
holds-opening (Covered rd level ipa) config is = is
holds-opening (Wide rd width) config is = is
holds-opening (SoleVmid rd vmid) config is = vmid-opening rd vmid config
holds-opening (PartOf granule owner) config is = is
holds-opening (Unassigned rd ipa) config is = is
holds-opening (UnassignedRam rd ipa) config is = is
holds-opening (Assigned rd ipa page) config is = is
holds-opening (HasRipas rd ipa ripas) config is = is
holds-opening (Activated rd) config is = is
holds-opening (OwnedBy rec rd) config is = is
holds-opening (Runnable rec) config is = is
holds-opening (Idle rec) config is = is
holds-opening (RunsOn rec at) config is = is
holds-opening (AsksFrom rec base) config is = is
holds-opening (RunsOrAsksWithin rec least most) config is = is
holds-opening (RunsOrAsksTo rec top ripas) config is = is

-- a call that makes it, and is carried out, leaves it so
pub holds-made : (fact : Fact) (s new : State) (cpu : ℕ) (command : Command) (given : Reply) → IsSound s → Step s cpu command given new
    → is_accepted given ≡ true → makes fact cpu (call_of command) given ≡ true → holds fact new ≡ true
holds-made (NewRealm rd) s new cpu command given sound = realm-made rd s new cpu command given
holds-made (Tagged granule tag) s new cpu command given sound = tag-made granule tag s new cpu command given sound
holds-made (Covered rd level ipa) s new cpu command given sound = table-made rd level ipa s new cpu command given
holds-made (Wide rd width) s new cpu command given sound = wide-made rd width s new cpu command given
holds-made (SoleVmid rd vmid) s new cpu command given sound = vmid-made rd vmid s new cpu command given sound
holds-made (PartOf granule owner) s new cpu command given sound = part-made granule owner s new cpu command given sound
holds-made (Unassigned rd ipa) s new cpu command given sound = entry-made rd ipa s new cpu command given sound
holds-made (UnassignedRam rd ipa) s new cpu command given sound = ram-made rd ipa s new cpu command given sound
holds-made (Assigned rd ipa page) s new cpu command given sound = page-made rd ipa page s new cpu command given
holds-made (HasRipas rd ipa ripas) s new cpu command given sound = λ step. ripas-made rd ipa ripas s new cpu command given sound step
holds-made (Activated rd) s new cpu command given sound = run-made rd s new cpu command given
holds-made (OwnedBy rec rd) s new cpu command given sound = λ step. owned-made rec s new cpu command given sound step rd
holds-made (Runnable rec) s new cpu command given sound = λ step. runnable-made rec s new cpu command given sound step
holds-made (Idle rec) s new cpu command given sound = λ step. idle-made rec s new cpu command given sound step
holds-made (RunsOn rec at) s new cpu command given sound = λ step. running-made rec at s new cpu command given sound step
holds-made (AsksFrom rec base) s new cpu command given sound = λ step. from-made rec s new cpu command given sound step base
holds-made (RunsOrAsksWithin rec least most) s new cpu command given sound = λ step. asking-made rec least most s new cpu command given sound step
holds-made (RunsOrAsksTo rec top ripas) s new cpu command given sound = λ step. to-made rec top ripas s new cpu command given sound step

-- a call that may not end it leaves it
pub holds-left : (fact : Fact) (s new : State) (cpu : ℕ) (command : Command) (given : Reply) → IsSound s → Step s cpu command given new
    → may_end fact cpu (call_of command) given ≡ false → holds fact s ≡ true → holds fact new ≡ true
holds-left (NewRealm rd) s new cpu command given sound = realm-left rd s new cpu command given
holds-left (Tagged granule tag) s new cpu command given sound = tag-left granule tag s new cpu command given sound
holds-left (Covered rd level ipa) s new cpu command given sound = table-left rd level ipa s new cpu command given
holds-left (Wide rd width) s new cpu command given sound = wide-left rd width s new cpu command given
holds-left (SoleVmid rd vmid) s new cpu command given sound = vmid-left rd vmid s new cpu command given sound
holds-left (PartOf granule owner) s new cpu command given sound = part-left granule owner s new cpu command given sound
holds-left (Unassigned rd ipa) s new cpu command given sound = entry-left rd ipa s new cpu command given sound
holds-left (UnassignedRam rd ipa) s new cpu command given sound = ram-left rd ipa s new cpu command given sound
holds-left (Assigned rd ipa page) s new cpu command given sound = page-left rd ipa page s new cpu command given sound
holds-left (HasRipas rd ipa ripas) s new cpu command given sound = λ step. ripas-left rd ipa ripas s new cpu command given sound step
holds-left (Activated rd) s new cpu command given sound = run-left rd s new cpu command given
holds-left (OwnedBy rec rd) s new cpu command given sound = λ step. owned-left rec s new cpu command given sound step rd
holds-left (Runnable rec) s new cpu command given sound = λ step. runnable-left rec s new cpu command given sound step
holds-left (Idle rec) s new cpu command given sound = λ step. idle-left rec s new cpu command given sound step
holds-left (RunsOn rec at) s new cpu command given sound = λ step. running-left rec at s new cpu command given sound step
holds-left (AsksFrom rec base) s new cpu command given sound = λ step. from-left rec s new cpu command given sound step base
holds-left (RunsOrAsksWithin rec least most) s new cpu command given sound = λ step. asking-left rec least most s new cpu command given sound step
holds-left (RunsOrAsksTo rec top ripas) s new cpu command given sound = λ step. to-left rec top ripas s new cpu command given sound step

-- where it holds, no call is given a reply that denies it
pub held-denies : (fact : Fact) (s new : State) (cpu : ℕ) (command : Command) (given : Reply) → IsSound s → Step s cpu command given new
    → holds fact s ≡ true → denies fact (call_of command) given ≡ true → ⊥
held-denies (NewRealm rd) s new cpu command given sound = realm-denied rd s new cpu command given
held-denies (Tagged granule tag) s new cpu command given sound = tag-denied granule tag s new cpu command given sound
held-denies (Covered rd level ipa) s new cpu command given sound = λ step is. table-denied rd level ipa s new cpu command sound is given step
held-denies (Wide rd width) s new cpu command given sound = wide-denied rd width s new cpu command given sound
held-denies (SoleVmid rd vmid) s new cpu command given sound = λ step is denied. both_ways denied refl
held-denies (PartOf granule owner) s new cpu command given sound = λ step is denied. both_ways denied refl
held-denies (Unassigned rd ipa) s new cpu command given sound = entry-denied rd ipa s new cpu command given sound
held-denies (UnassignedRam rd ipa) s new cpu command given sound = ram-denied rd ipa s new cpu command given sound
held-denies (Assigned rd ipa page) s new cpu command given sound = page-denied rd ipa page s new cpu command given sound
held-denies (HasRipas rd ipa ripas) s new cpu command given sound = λ step. ripas-denied rd ipa ripas s new cpu command given sound step
held-denies (Activated rd) s new cpu command given sound = run-denied rd s new cpu command given sound
held-denies (OwnedBy rec rd) s new cpu command given sound = λ step is denied. both_ways denied refl
held-denies (Runnable rec) s new cpu command given sound = λ step is denied. both_ways denied refl
held-denies (Idle rec) s new cpu command given sound = λ step is denied. both_ways denied refl
held-denies (RunsOn rec at) s new cpu command given sound = λ step. running-denied rec at s new cpu command given sound step
held-denies (AsksFrom rec base) s new cpu command given sound = λ step is.
    asking-denied rec base base s new cpu command given sound step (runs_or_asks-asking base base (s.rec rec) is (le-leb base base (omega arith)))
held-denies (RunsOrAsksWithin rec least most) s new cpu command given sound = λ step. asking-denied rec least most s new cpu command given sound step
held-denies (RunsOrAsksTo rec top ripas) s new cpu command given sound = λ step is denied. both_ways denied refl
