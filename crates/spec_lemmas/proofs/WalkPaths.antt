-- The tables on a path: one at each level, and each above another links to one.
use Rattle.std.proofs.Common.{◌≡◌, ℕ, zero, suc, ◌+◌, ◌-◌, ◌<◌, ◌≤◌, ◌⊎◌, inl, inr, List, Some, refl, sym, ap, subst, ◌∙◌, arith}
use Rattle.std.specs.List.{slice_get}
use Rattle.rmm_spec.specs.declared.entry.Entry.TheVariants.{Table}
use Rattle.rmm_spec.specs.Table.{TableRecord, entry_index}
use Rattle.rmm_spec.specs.TableCells.{TableCell, table_in, LinksTo, IsOnPath, IsWalkable}

-- a table is on the path from the root
abbrev pub OnPath : (cells : List TableCell) (root ipa max : ℕ) → IsWalkable cells root ipa max → ℕ → TableRecord → Type 0
OnPath cells root ipa max w granule t = IsOnPath cells w.table.place.rd w.table.place.level ipa granule t

-- a table on the path is the root, or another links to it
abbrev pub IsLinked : (cells : List TableCell) (root ipa max : ℕ) → IsWalkable cells root ipa max → ℕ → Type 0
IsLinked cells root ipa max w granule =
    (granule ≡ root) ⊎ ((above : ℕ) × (u : TableRecord) × OnPath cells root ipa max w above u × LinksTo u ipa granule)

-- a granule holds one table
pub same_table : (cells : List TableCell) (g h : ℕ) (t u : TableRecord) → table_in cells g ≡ Some t → table_in cells h ≡ Some u → g ≡ h → t ≡ u
same_table cells g h t u at_g at_h same =
    let tables : Some t ≡ Some u = (sym at_g ∙ ap (λ (x : ℕ). table_in cells x) same) ∙ at_h in cc

-- the root's level is where the path starts
root_level : (cells : List TableCell) (root ipa max : ℕ) (w : IsWalkable cells root ipa max) (g : ℕ) (t : TableRecord)
    → OnPath cells root ipa max w g t → g ≡ root → t.place.level ≡ w.table.place.level
root_level cells root ipa max w g t path is_root =
    ap (λ (x : TableRecord). x.place.level) (same_table cells g root t w.table path.is_held w.is_root.is_held is_root)

-- a link leads one level down
link_level : (cells : List TableCell) (root ipa max : ℕ) (w : IsWalkable cells root ipa max) (above g : ℕ) (u t : TableRecord)
    → OnPath cells root ipa max w above u → LinksTo u ipa g → OnPath cells root ipa max w g t → t.place.level ≡ suc u.place.level
link_level cells root ipa max w above g u t over link path =
    let next = w.links above g u over link in
    ap (λ (x : TableRecord). x.place.level) (same_table cells g g t next.0 path.is_held next.1.is_held refl) ∙ next.2

-- equal tables link to one granule
same_link : (g h ipa : ℕ) (t u : TableRecord) → t ≡ u → LinksTo t ipa g → LinksTo u ipa h → g ≡ h
same_link g h ipa t u same to_g to_h =
    let links : Some (Table g) ≡ Some (Table h) =
    (sym to_g ∙ ap (λ (x : TableRecord). slice_get x.entries (entry_index x.place.level ipa)) same) ∙ to_h in cc

-- two tables of one level are in one granule, where those above them are
one_a_level-by : (cells : List TableCell) (root ipa max : ℕ) (w : IsWalkable cells root ipa max) (g h : ℕ) (t u : TableRecord)
    → OnPath cells root ipa max w g t → OnPath cells root ipa max w h u → t.place.level ≡ u.place.level
    → ((a b : ℕ) (ta tb : TableRecord) → OnPath cells root ipa max w a ta → OnPath cells root ipa max w b tb
    → ta.place.level ≡ tb.place.level → t.place.level ≡ suc ta.place.level → a ≡ b)
    → IsLinked cells root ipa max w g → IsLinked cells root ipa max w h → g ≡ h
one_a_level-by cells root ipa max w g h t u p q level earlier (inl g_root) (inl h_root) = g_root ∙ sym h_root
one_a_level-by cells root ipa max w g h t u p q level earlier (inl g_root) (inr above_h) =
    let top = root_level cells root ipa max w g t p g_root in
    let down = link_level cells root ipa max w above_h.0 h above_h.1 u above_h.2 above_h.3 q in
    absurd (omega (arith, above_h.2.is_below))
one_a_level-by cells root ipa max w g h t u p q level earlier (inr above_g) (inl h_root) =
    let top = root_level cells root ipa max w h u q h_root in
    let down = link_level cells root ipa max w above_g.0 g above_g.1 t above_g.2 above_g.3 p in
    absurd (omega (arith, above_g.2.is_below))
one_a_level-by cells root ipa max w g h t u p q level earlier (inr above_g) (inr above_h) =
    let down_g = link_level cells root ipa max w above_g.0 g above_g.1 t above_g.2 above_g.3 p in
    let down_h = link_level cells root ipa max w above_h.0 h above_h.1 u above_h.2 above_h.3 q in
    let same = earlier above_g.0 above_h.0 above_g.1 above_h.1 above_g.2 above_h.2 (omega arith) down_g in
    same_link g h ipa above_g.1 above_h.1
    (same_table cells above_g.0 above_h.0 above_g.1 above_h.1 above_g.2.is_held above_h.2.is_held same) above_g.3 above_h.3

-- the path has one table a level
pub one_a_level : (cells : List TableCell) (root ipa max : ℕ) (w : IsWalkable cells root ipa max) (depth g h : ℕ) (t u : TableRecord)
    → OnPath cells root ipa max w g t → OnPath cells root ipa max w h u → t.place.level ≡ u.place.level
    → t.place.level ≤ w.table.place.level + depth → g ≡ h
one_a_level cells root ipa max w zero g h t u p q level within =
    one_a_level-by cells root ipa max w g h t u p q level
    (λ a b ta tb pa pb same below. absurd (omega (arith, pa.is_below)))
    (w.linked g t p) (w.linked h u q)
one_a_level cells root ipa max w (suc depth) g h t u p q level within =
    one_a_level-by cells root ipa max w g h t u p q level
    (λ a b ta tb pa pb same below. one_a_level cells root ipa max w depth a b ta tb pa pb same (omega arith))
    (w.linked g t p) (w.linked h u q)

-- two tables of the path at one level are one
pub same_on_path : (cells : List TableCell) (root ipa max : ℕ) (w : IsWalkable cells root ipa max) (g h : ℕ) (t u : TableRecord)
    → OnPath cells root ipa max w g t → OnPath cells root ipa max w h u → t.place.level ≡ u.place.level → (g ≡ h) × (t ≡ u)
same_on_path cells root ipa max w g h t u p q level =
    let same = one_a_level cells root ipa max w t.place.level g h t u p q level (omega arith) in
    (same, same_table cells g h t u p.is_held q.is_held same)

-- a table of the path at the level, with a link
pub record HasLinkAt (cells : List TableCell) (root ipa max : ℕ) (w : IsWalkable cells root ipa max) (level : ℕ) : Type 0 where
  pub above : ℕ
  pub table : TableRecord
  pub next : ℕ
  pub path : OnPath cells root ipa max w above table
  pub is_level : table.place.level ≡ level
  pub link : LinksTo table ipa next

-- one step up: the root has no table above it, and any other is linked from one
link_above-by : (cells : List TableCell) (root ipa max : ℕ) (w : IsWalkable cells root ipa max) (level g : ℕ) (t : TableRecord)
    → OnPath cells root ipa max w g t → level < t.place.level → w.table.place.level ≤ level → IsLinked cells root ipa max w g
    → ((a : ℕ) (u : TableRecord) → OnPath cells root ipa max w a u → LinksTo u ipa g → t.place.level ≡ suc u.place.level
    → HasLinkAt cells root ipa max w level)
    → HasLinkAt cells root ipa max w level
link_above-by cells root ipa max w level g t path deeper below (inl is_root) later =
    let top = root_level cells root ipa max w g t path is_root in absurd (omega arith)
link_above-by cells root ipa max w level g t path deeper below (inr over) later =
    later over.0 over.1 over.2 over.3 (link_level cells root ipa max w over.0 g over.1 t over.2 over.3 path)

-- above a table of the path is one with a link, at each level from the root's on
pub link_above : (cells : List TableCell) (root ipa max : ℕ) (w : IsWalkable cells root ipa max) (level depth g : ℕ) (t : TableRecord)
    → OnPath cells root ipa max w g t → t.place.level ≡ suc (level + depth) → w.table.place.level ≤ level → HasLinkAt cells root ipa max w level
link_above cells root ipa max w level zero g t path deeper below =
    link_above-by cells root ipa max w level g t path (omega arith) below (w.linked g t path)
    (λ a u over link down. record { above = a; table = u; next = g; path = over; is_level = omega arith; link = link })
link_above cells root ipa max w level (suc depth) g t path deeper below =
    link_above-by cells root ipa max w level g t path (omega arith) below (w.linked g t path)
    (λ a u over link down. link_above cells root ipa max w level depth a u over (omega arith) below)

-- a table of the path with another below it has a link
pub link_of_deeper : (cells : List TableCell) (root ipa max : ℕ) (w : IsWalkable cells root ipa max) (g h : ℕ) (t u : TableRecord)
    → OnPath cells root ipa max w g t → OnPath cells root ipa max w h u → t.place.level < u.place.level → (next : ℕ) × LinksTo t ipa next
link_of_deeper cells root ipa max w g h t u p q deeper =
    let at = link_above cells root ipa max w t.place.level (u.place.level - suc t.place.level) h u q (omega arith) p.is_below in
    let same = same_on_path cells root ipa max w at.above g at.table t at.path p at.is_level in
    (at.next, subst (λ (x : TableRecord). LinksTo x ipa at.next) same.1 at.link)
