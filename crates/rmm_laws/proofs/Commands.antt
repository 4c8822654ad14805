-- What an accepted command does is a change that the state can take: each command by its rows.
use Rattle.rmm_laws.proofs.SoundCommon.{◌&&◌, ◌*◌, ◌-◌, ◌/◌, ◌<◌, ◌==◌, ◌∙◌, ◌≡◌, ◌≤◌, Assigned, IsRequest, IsSound, IsTrue, Request, Some, State, Unassigned, UnassignedNs, and_parts, ap, arith, entry_at, eqb-true, false, inl, inr, is_some, is_table, nat_lt, realm_at, rec_at, refl, subst, suc, sym, ℕ}
use Rattle.std.proofs.Common.{List, length, is_none, nat_le, not}
use Rattle.std.specs.Prelude.{Ok}
use Rattle.std.proofs.lemmas.Bool.{and_from, or_left, not-true, ltb-true, leb-true}
use Rattle.rmm_spec.specs.declared.accepted.Accepted.{Accepted}
use Rattle.rmm_spec.specs.declared.call.Call.{Call}
use Rattle.rmm_spec.specs.declared.call.Call.TheVariants as call
use Rattle.rmm_spec.specs.declared.command.Command.{Command}
use Rattle.rmm_spec.specs.declared.function_id.FunctionId.{FunctionId}
use Rattle.rmm_spec.specs.declared.function_id.FunctionId.TheVariants as function
use Rattle.rmm_spec.specs.declared.refusal.Refusal.TheVariants.{Misplaced}
use Rattle.rmm_spec.specs.Call.{call_from, call_of, class_of}
use Rattle.rmm_spec.specs.declared.version.Version.{Version}
use Rattle.rmm_spec.specs.declared.version.Version.TheVariants.{One, Two, Large}
use Rattle.rmm_spec.specs.Lookup.{is_hash, allows_hash, is_inside, rec_inside, request_of}
use Rattle.rmm_spec.specs.Walk.{half, entry_size, entry_number, table_number, entry_for, full, entry_ripas, entry_address, reach, walk, is_unassigned, is_unassigned_ns, is_assigned_ns}
use Rattle.rmm_spec.specs.Step.{is_placed, misplacement, answer_of, outcome}
use Rattle.rmm_spec.specs.Step.Terms.{words_of, named, is_page}
use Rattle.spec_lemmas.proofs.Behind.{behind}
use Rattle.rmm_laws.proofs.ByRows.{row_holds}
use Rattle.rmm_laws.proofs.Applies.{Applies, Follows, IsRunning, answer_applies, inside_running, idle_awaits_nothing, request_there}
use Rattle.rmm_spec.specs.declared.entry.Entry.TheVariants.{AssignedNs}
use Rattle.rmm_laws.proofs.Ends.{table_number-above, after_table_fits, at_end, page_replaced, page_protected, page_unprotected, walked_whole, stretch_can_be_set, reached_page}
use Rattle.rmm_laws.proofs.Entries.{link_there}
use Rattle.rmm_laws.proofs.Walked.{IsWalked, walked, table_starts, entry_begins, walked_protected, unassigned_kind, assigned_kind, unassigned_ns_kind, assigned_ns_kind}
use Rattle.rmm_spec.specs.declared.tag.Ripas.TheVariants.{Ram}
use Rattle.rmm_spec.specs.Step.Data.{ripas_after_data}
use Rattle.rmm_spec.specs.declared.accepted.Stretch.{Stretch}
use Rattle.rmm_spec.specs.declared.accepted.StretchUse.TheVariants.{Init, Requested}
use Rattle.rmm_spec.specs.Step.Ripas.{reached_change}
use Rattle.rmm_laws.proofs.Unused.{left_unused}

-- a call's digest or values are as many words as the function takes
abbrev pub IsWhole : Call → Type 0
IsWhole (call.DataCreate rd granule ipa source flags digest) = length digest ≡ 4
IsWhole (call.MeasurementExtend index size values) = length values ≡ 8
IsWhole _ = Unit {0}

-- as they are in a call that is read from a command
whole_call : (called : FunctionId) (words : List ℕ) → IsWhole (call_from called words)
unfolding call_from
whole_call function.DataCreate words = refl
whole_call function.MeasurementExtend words = refl
whole_call _ words = tt

-- a command has the words that its call takes
pub whole_command : (command : Command) → IsWhole (call_of command)
whole_command command = whole_call command.function command.words.items

-- a version's hashes are hashes
is_hash-allowed : (version : Version) (algo : ℕ) → IsTrue (allows_hash version algo) → IsTrue (is_hash algo)
is_hash-allowed One algo allowed = or_left _ _ allowed
is_hash-allowed Two algo allowed = allowed
is_hash-allowed Large algo allowed = allowed

-- a call of a realm comes from a REC that runs
call_running : (s : State) (cpu : ℕ)
    → IsSound s → IsTrue (is_inside s cpu && is_none (rec_at s (rec_inside s cpu)).pending) → IsRunning s (rec_inside s cpu)
call_running s cpu sound placed = inside_running s cpu sound (and_parts (is_inside s cpu) (is_none (rec_at s (rec_inside s cpu)).pending) placed).0

-- each command
command_follows : (s : State) (cpu : ℕ) (c : Call) → IsSound s → IsWhole c → IsTrue (is_placed s cpu (class_of c)) → Follows s cpu c
unfolding behind class_of words_of named reached_change
command_follows s cpu (call.GranuleDelegate granule) sound whole placed (tag, _) = inl (tag, refl)
command_follows s cpu (call.GranuleUndelegate granule) sound whole placed (tag, _) = inr (tag, refl)
command_follows s cpu (call.RealmCreate rd root width level vmid algo) sound whole placed
    (differ, (supported, (space, (vmid_fits, (rd_tag, (root_tag, (allowed, (unused, _)))))))) = record {
      rd_tag = rd_tag;
      root_tag = root_tag;
      apart = not-true _ differ;
      space = space;
      vmid_fits = vmid_fits;
      unused = not-true _ unused;
      hashes = is_hash-allowed s.config.version algo allowed;
    }
command_follows s cpu (call.RealmActivate rd) sound whole placed (rd_tag, _) = ((rd_tag, tt), tt)
command_follows s cpu (call.RealmDestroy rd) sound whole placed (rd_tag, (childless, (unlinked, _))) =
    record { rd_tag = rd_tag; is_root = refl; childless = not-true _ childless; unlinked = not-true _ unlinked }
command_follows s cpu (call.RecCreate rd rec mpidr flags aux0 aux1) sound whole placed
    (differ, (flags_fit, (rd_tag, (rec_tag, (aux0_tag, (aux1_tag, (new, (next, (few, _))))))))) =
    let three = and_parts (not (rec == aux0) && not (rec == aux1)) (not (aux0 == aux1)) differ in
    let two = and_parts (not (rec == aux0)) (not (rec == aux1)) three.0 in
    record {
      rd_tag = rd_tag;
      rec_tag = rec_tag;
      aux0_tag = aux0_tag;
      aux1_tag = aux1_tag;
      apart0 = not-true _ two.0;
      apart1 = not-true _ two.1;
      apart = not-true _ three.1;
      index_fits = and_from _ _ next few;
      flags_fit = flags_fit;
    }
command_follows s cpu (call.RecDestroy rec) sound whole placed (rec_tag, (ready, _)) =
    record { rec_tag = rec_tag; is_aux0 = refl; is_aux1 = refl; ready = ready }
command_follows s cpu (call.RecEnter rec) sound whole placed (rec_tag, (not_new, (not_off, (idle, (runnable, _))))) =
    (tt, (rec_tag, (idle, not-true (is_inside s cpu) placed, idle_awaits_nothing s rec sound rec_tag idle)))
command_follows s cpu (call.RttCreate rd rtt ipa level) sound whole placed
    (level_fits, (aligned, (rd_tag, (rtt_tag, (above, (below, (ends, (leaf, _)))))))) =
    let last : level ≤ 3 = leb-true level 3 level_fits in
    let under : (realm_at s rd).start_level < level = ltb-true (realm_at s rd).start_level level above in
    let inside : ipa < full (realm_at s rd) = ltb-true ipa (full (realm_at s rd)) below in
    let at : reach s rd ipa (level - 1) ≡ level - 1 = eqb-true (reach s rd ipa (level - 1)) (level - 1) ends in
    let number : table_number level ipa ≡ entry_number (level - 1) ipa = table_number-above level ipa (omega arith) in
    let end : IsWalked s rd ipa (level - 1) =
    subst (IsWalked s rd ipa) at (walked s rd ipa (level - 1) sound rd_tag inside (omega arith) (omega arith)) in
    record {
      rd_tag = rd_tag;
      rtt_tag = rtt_tag;
      below_root = under;
      place = record { below_root = omega arith; last = last; inside = omega (arith, table_starts level ipa) };
      parent = subst (λ n. IsTrue (is_some (s.table rd (level - 1) (n / 512)))) (sym number) end.table;
      is_entry = ap (λ l. entry_for s rd l ipa) at ∙ ap (entry_at s rd (level - 1)) (sym number);
      leaf = not-true _ leaf;
    }
command_follows s cpu (call.RttRemove removal rd ipa level) sound whole placed
    (level_fits, (aligned, (rd_tag, (above, (below, (walks, (linked, (there, _)))))))) =
    let last : level ≤ 3 = leb-true level 3 level_fits in
    let under : (realm_at s rd).start_level < level = ltb-true (realm_at s rd).start_level level above in
    let inside : ipa < full (realm_at s rd) = ltb-true ipa (full (realm_at s rd)) below in
    let at : reach s rd ipa (level - 1) ≡ level - 1 = eqb-true (reach s rd ipa (level - 1)) (level - 1) walks in
    let number : table_number level ipa ≡ entry_number (level - 1) ipa = table_number-above level ipa (omega arith) in
    let up : suc (level - 1) ≡ level = omega arith in
    let end : IsWalked s rd ipa (level - 1) =
    subst (IsWalked s rd ipa) at (walked s rd ipa (level - 1) sound rd_tag inside (omega arith) (omega arith)) in
    let link =
    link_there s sound rd (level - 1) (entry_number (level - 1) ipa) end.table (subst (λ l. IsTrue (is_table (entry_for s rd l ipa))) at linked) in
    let address : entry_address (walk s rd ipa (level - 1)).entry ≡ link.0 = ap entry_address (ap (λ l. entry_for s rd l ipa) at ∙ link.2) in
    let below_it : s.table rd (suc (level - 1)) (table_number level ipa) ≡ Some link.0 = ap (s.table rd (suc (level - 1))) number ∙ link.1 in
    let begins : table_number level ipa * entry_size (level - 1) ≡ ipa =
    ap (λ n. n * entry_size (level - 1)) number ∙ entry_begins (level - 1) ipa aligned in
    let kind = after_table_fits (realm_at s rd) ipa (level - 1) (table_number level ipa) _ begins in
    record {
      rd_tag = rd_tag;
      below_root = under;
      there = subst (λ l. s.table rd l (table_number level ipa) ≡ Some link.0) up below_it ∙ ap Some (sym address);
      unused = left_unused s removal rd level (table_number level ipa) there;
      vacant = kind.0;
      kind = kind.1;
    }
command_follows s cpu (call.DataCreate rd granule ipa source flags digest) sound whole placed
    (flags_fit, (aligned, (rd_tag, (page_tag, (source_tag, (below, (new, (ends, (free, (ram, _)))))))))) =
    let at : reach s rd ipa 3 ≡ 3 = eqb-true (reach s rd ipa 3) 3 ends in
    let inside : ipa < half (realm_at s rd) = ltb-true ipa (half (realm_at s rd)) below in
    let old = unassigned_kind (entry_at s rd 3 (entry_number 3 ipa)) (at_end (λ e. IsTrue (is_unassigned e)) s rd ipa at free) in (
      rd_tag,
      (
        page_replaced s rd ipa (Assigned Ram granule) (walked_protected s rd ipa sound rd_tag inside) at old.1 (page_protected s rd ipa inside, refl),
        inl (page_tag, refl, old.0, (Ram, refl)),
      ),
      (rd_tag, whole),
      tt,
    )
command_follows s cpu (call.DataCreateUnknown rd granule ipa) sound whole placed (aligned, (rd_tag, (page_tag, (below, (ends, (free, _)))))) =
    let at : reach s rd ipa 3 ≡ 3 = eqb-true (reach s rd ipa 3) 3 ends in
    let inside : ipa < half (realm_at s rd) = ltb-true ipa (half (realm_at s rd)) below in
    let old = unassigned_kind (entry_at s rd 3 (entry_number 3 ipa)) (at_end (λ e. IsTrue (is_unassigned e)) s rd ipa at free) in (
      rd_tag,
      (
        page_replaced s rd ipa (Assigned (entry_ripas (walk s rd ipa 3).entry) granule)
            (walked_protected s rd ipa sound rd_tag inside) at old.1 (page_protected s rd ipa inside, refl),
        inl (page_tag, refl, old.0, (entry_ripas (walk s rd ipa 3).entry, refl)),
      ),
      tt,
      tt,
    )
command_follows s cpu (call.DataDestroy rd ipa) sound whole placed (aligned, (rd_tag, (below, (ends, (taken, _))))) =
    let at : reach s rd ipa 3 ≡ 3 = eqb-true (reach s rd ipa 3) 3 ends in
    let inside : ipa < half (realm_at s rd) = ltb-true ipa (half (realm_at s rd)) below in
    let old = assigned_kind (walk s rd ipa 3).entry taken in (
      rd_tag,
      (
        page_replaced s rd ipa (Unassigned (ripas_after_data (entry_ripas (walk s rd ipa 3).entry)))
            (walked_protected s rd ipa sound rd_tag inside) at
            (at_end (λ e. is_table e ≡ false) s rd ipa at old.0) (page_protected s rd ipa inside),
        inr (refl, refl, (old.1.0, at_end (λ e. e ≡ Assigned old.1.0 (entry_address (walk s rd ipa 3).entry)) s rd ipa at old.1.1)),
      ),
      tt,
      tt,
    )
command_follows s cpu (call.RttMapUnprotected rd ipa page) sound whole placed (aligned, (page_fits, (rd_tag, (upper, (ends, (free, _)))))) =
    let at : reach s rd ipa 3 ≡ 3 = eqb-true (reach s rd ipa 3) 3 ends in
    let bounds = and_parts (nat_le (half (realm_at s rd)) ipa) (nat_lt ipa (full (realm_at s rd))) upper in
    let old = unassigned_ns_kind (entry_at s rd 3 (entry_number 3 ipa)) (at_end (λ e. IsTrue (is_unassigned_ns e)) s rd ipa at free) in (
      rd_tag,
      (
        page_replaced s rd ipa (AssignedNs page) (walked_whole s rd ipa sound rd_tag (ltb-true ipa (full (realm_at s rd)) bounds.1)) at old.1
            (page_unprotected s rd ipa aligned bounds.0, refl),
        (refl, old.0),
      ),
      tt,
      tt,
    )
command_follows s cpu (call.RttUnmapUnprotected rd ipa) sound whole placed (aligned, (rd_tag, (upper, (ends, (free, _))))) =
    let at : reach s rd ipa 3 ≡ 3 = eqb-true (reach s rd ipa 3) 3 ends in
    let bounds = and_parts (nat_le (half (realm_at s rd)) ipa) (nat_lt ipa (full (realm_at s rd))) upper in
    let old = assigned_ns_kind (entry_at s rd 3 (entry_number 3 ipa)) (at_end (λ e. IsTrue (is_assigned_ns e)) s rd ipa at free) in (
      rd_tag,
      (
        page_replaced s rd ipa UnassignedNs
            (walked_whole s rd ipa sound rd_tag (ltb-true ipa (full (realm_at s rd)) bounds.1)) at old.1 (page_unprotected s rd ipa aligned bounds.0),
        (refl, old.0),
      ),
      tt,
      tt,
    )
command_follows s cpu (call.RttInitRipas rd base top) sound whole placed
    (base_page, (top_page, (ordered, (rd_tag, (within, (new, (free, (first, _)))))))) = λ end reached.
    let bound : top ≤ half (realm_at s rd) = leb-true top (half (realm_at s rd)) within in
    let below : base < top = ltb-true base top ordered in (
      rd_tag,
      (
        stretch_can_be_set s (record { rd = rd; base = base; top = top; level = reach s rd base 3; purpose = Init }) end
            (walked_protected s rd base sound rd_tag (omega arith)) first (omega (arith, reached.within)) reached,
        refl,
      ),
      (rd_tag, tt),
      tt,
    )
command_follows s cpu (call.RttSetRipas rd rec base top) sound whole placed
    (rd_tag, (rec_tag, (owned, (idle, (asked, (at_base, (bounded, (ordered, (paged, (first, _)))))))))) = λ end reached.
    let request : Request = request_of (rec_at s rec) in
    let is_rd : (rec_at s rec).owner ≡ rd = eqb-true (rec_at s rec).owner rd owned in
    let asks : IsRequest (realm_at s (rec_at s rec).owner) request = request_there s rec sound rec_tag asked in
    let bound : request.top ≤ half (realm_at s rd) = subst (λ g. request.top ≤ half (realm_at s g)) is_rd asks.protected in
    let up_to : top ≤ request.top = leb-true top request.top bounded in
    let below : base < top = ltb-true base top ordered in
    let base_page = subst (λ b. IsTrue (is_page b)) (sym (eqb-true base request.base at_base))
    (and_parts (is_page request.base) (is_page request.top) asks.pages).0 in
    let walk_end = walked_protected s rd base sound rd_tag (omega arith) in
    let stretch : Stretch = record { rd = rd; base = base; top = top; level = reach s rd base 3; purpose = Requested rec request.ripas } in (
      rd_tag,
      (stretch_can_be_set s stretch end walk_end first (omega (arith, reached.within)) reached, refl),
      tt,
      (
        rec_tag,
        (
          idle,
          asked,
          record {
            pages = and_from _ _ (reached_page s stretch end walk_end.last base_page reached)
                (and_parts (is_page request.base) (is_page request.top) asks.pages).1;
            ordered = omega (arith, reached.within);
            protected = asks.protected;
          },
        ),
      ),
    )
command_follows s cpu (call.MeasurementExtend index size values) sound whole placed (index_fits, (size_fits, _)) =
    let index_in = and_parts (nat_le 1 index) (nat_le index 4) index_fits in
    let size_in = and_parts (nat_le 1 size) (nat_le size 0x40) size_fits in
    (((call_running s cpu sound placed).owner, (leb-true 1 index index_in.0, leb-true index 4 index_in.1, leb-true size 0x40 size_in.1, whole)), tt)
command_follows s cpu (call.IpaStateSet base top ripas) sound whole placed (base_page, (top_page, (ordered, (ripas_fits, (within, _))))) =
    let running = call_running s cpu sound placed in
    let below : base < top = ltb-true base top ordered in (
      tt,
      (
        running.tag,
        (
          running.cpu,
          record {
            pages = and_from _ _ base_page top_page;
            ordered = omega arith;
            protected = leb-true top (half (realm_at s (rec_at s (rec_inside s cpu)).owner)) within;
          },
        ),
      ),
    )
command_follows s cpu (call.HostCall imm) sound whole placed _ = let running = call_running s cpu sound placed in (tt, (running.tag, running.cpu))
command_follows s cpu call.CpuOff sound whole placed _ = let running = call_running s cpu sound placed in (tt, (running.tag, running.cpu))
command_follows s cpu call.SystemOff sound whole placed _ =
    let running = call_running s cpu sound placed in ((running.owner, tt), (running.tag, running.cpu))
command_follows s cpu call.Exit sound whole placed _ = let running = inside_running s cpu sound placed in (tt, (running.tag, running.cpu))
command_follows s cpu _ sound whole placed _ = tt

-- what is accepted can be applied
pub accepted_applies : (s : State) (cpu : ℕ) (called : Call) (a : Accepted) → IsSound s → IsWhole called → outcome s cpu called ≡ Ok a → Applies s a
unfolding outcome
accepted_applies s cpu called a sound whole is =
    row_holds (Applies s a) (is_placed s cpu (class_of called)) (answer_of s cpu called)
    (Misplaced (misplacement (is_inside s cpu) (class_of called))) a is
    (λ placed. answer_applies s cpu called a (command_follows s cpu called sound whole placed))
