-- The text of several windows, or of none, is that of a scan with a directory, which was built before.
use Rattle.twkb_tool.proofs.Prelude.{rules, ◌≡◌, ℕ, ◌+◌, ◌≤◌, ◌++◌, List, [], ◌∷◌, length, flat_map, sum_by, get_or, OnOk, refl, subst, sym, arith, on_ok_weaker, Bounds, Geometry, directory_cost, cost, IsCertifiedLayer, AddsAtMost, reading, window_text, MAX_FILE}
use Rattle.twkb_tool.specs.Devices.Scanned.{all_read, most_built}
use Rattle.twkb_tool.proofs.text.push_scan.Goals as goal
use Rattle.twkb_tool.proofs.text.push_scan.Goals.{then-windows-lt1, else-windows-lt1+else-windows-lt2}

-- several windows, or none, are scanned for with a directory
by_directory : (windows : List Bounds) → (length windows ≡ 1 → ⊥) → directory_cost ≡ reading windows
by_directory [] others = refl
by_directory (w ∷ []) others = absurd (others refl)
by_directory (w ∷ v ∷ ws) others = refl

-- what the count of the layer grew by: what was built, and what was read for the windows
abbrev Grew : List Bounds → List ℕ → List Geometry → ℕ → ℕ → Type 0
Grew windows bytes trees old new = (built : ℕ) × (built ≤ most_built windows bytes) × (new ≡ old + built + all_read windows trees)

grew_once : (windows : List Bounds) (w : Bounds) (bytes : List ℕ) (trees : List Geometry) (old new : ℕ) → length windows ≡ 1 → w ≡ get_or windows 0 w
    → new ≡ old + sum_by (cost w) trees → Grew windows bytes trees old new
grew_once [] w bytes trees old new one is read = absurd (omega (arith, one))
grew_once (v ∷ []) w bytes trees old new one is read =
    let read_of : new ≡ old + sum_by (cost v) trees = subst (λ (w : Bounds). new ≡ old + sum_by (cost w) trees) is read in
    (0, omega arith, omega (arith, read_of))
grew_once (v ∷ u ∷ vs) w bytes trees old new one is read = absurd (omega (arith, one))

grew_further : (windows : List Bounds) (bytes : List ℕ) (trees : List Geometry) (old begun new : ℕ) → (length windows ≡ 1 → ⊥) → AddsAtMost (length bytes) old begun
    → old ≤ MAX_FILE → length bytes ≤ MAX_FILE → new ≡ begun + sum_by (λ w. sum_by (directory_cost w) trees) windows → Grew windows bytes trees old new
grew_further [] bytes trees old begun new others built few small read = (built.read, built.few, omega (arith, built.is, built.few, few, small, read))
grew_further (v ∷ []) bytes trees old begun new others built few small read = absurd (others refl)
grew_further (v ∷ u ∷ vs) bytes trees old begun new others built few small read = (built.read, built.few, omega (arith, built.is, built.few, few, small, read))

not_one : (g : _) (c : goal.After-drop-room-2 g) → length c.args.windows.now ≡ 1 → ⊥
not_one g c one = elim c.if-windows-lt1.branch [
  | then-windows-lt1 w ↦ search rules
  | else-windows-lt1+else-windows-lt2 w ↦ search rules
]

pub returns-clause-text : goal.returns-clause-text
returns-clause-text g c = λ trees layer.
    let windows = c.args.windows.now in
    let same = c.build_in.ensures.bytes in
    let text = c.push_windows.ensures.text trees (subst (IsCertifiedLayer trees) (sym same) layer) in
    subst (λ (costs : Bounds → Geometry → ℕ). OnOk c.push_windows.result (c.push_windows.new.out.items ≡ c.args.out.now.items ++ flat_map (window_text costs trees (length c.args.layer.now.bytes)) windows)) (by_directory windows (not_one g c))
    (subst (λ (bytes : List ℕ). OnOk c.push_windows.result (c.push_windows.new.out.items ≡ c.args.out.now.items ++ flat_map (window_text directory_cost trees (length bytes)) windows)) same text)

pub returns-in-len1-clause-count : goal.returns-in-len1-clause-count
returns-in-len1-clause-count g c = λ trees layer.
    on_ok_weaker c.push_window.result (λ _. grew_once c.args.windows.now _ c.args.layer.now.bytes trees _ _ (omega (arith, c.in-len1.len_at_least, c.in-len1.len_below)) c.window-item.is (c.push_window.ensures.count trees layer)) (c.push_window.ensures.text trees layer)

pub returns-clause-count : goal.returns-clause-count
returns-clause-count g c = λ trees layer.
    on_ok_weaker c.push_windows.result (grew_further c.args.windows.now c.args.layer.now.bytes trees _ _ _ (not_one g c) c.build_in.ensures.once c.requires.read c.requires.small)
    (c.push_windows.ensures.count trees (subst (IsCertifiedLayer trees) (sym c.build_in.ensures.bytes) layer))
