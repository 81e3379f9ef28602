-- From the definitions back to reading: what crates above use of a header that was read.
use Rattle.twkb_head.proofs.Prelude.{◌≡◌, ℕ, zero, suc, ◌+◌, ◌-◌, ◌%◌, ◌≤◌, List, [], ◌∷◌, ◌++◌, length, drop, Some, None, Result, Ok, Err, ◌⊎◌, refl, sym, ap, ap₂, ◌∙◌, arith, length-append, common_steps, Reading, rest, passed, added, IsMoved, IsSound, Header, IsHeader, Field, type_field, byte_field, number_field, coordinate_field, IsBegunHeader, IsAllowedUnder, deepest, IsHeadAt, IsWrongField, IsRefusedHead, cut_byte, judge_kind, kind_of_code, HeadValue, head_plan, Answer, read, Fails, rest-passed, Kind as KindOf, GeometryCollection, append_cancel_right, Why, Cut, Varint, Depth, Range, Malformed, Head}
use Rattle.twkb_head.proofs.Spelling.{Fault, fault, run}
use Rattle.twkb_head.specs.declared.refusal.Why.TheVariants.{Kind}
use Rattle.twkb_head.proofs.FieldCuts.{ok_is, err_is, cut_off, too_long}
use Rattle.twkb_head.proofs.Plans.{run_again, run_uncut}
use Rattle.twkb_head.proofs.Heads.{IsAllowedWith, kind_code, allowed_with, head_laws}
use Rattle.twkb_head.proofs.Readings.{read_ok, read_err, reading_path}
use Rattle.twkb_head.proofs.HeadLaws.{type_first}

not_both : {A : Type 0} (x : A) (f : Fault) (q : Result A Fault) → q ≡ Ok x → q ≡ Err f → ⊥
not_both x f q a b = cc (a, b)

abbrev why_in : Fault → Why
why_in (fault w d g) = w

abbrev rest_in : Fault → List ℕ
rest_in (fault w d g) = g

-- the value that the plan of headers reads from the bytes of a header
abbrev pub value_of : (h : Header) (a : List ℕ) → IsHeader h a → HeadValue
value_of h a ih = record { header = h; before = 2 + length ih.extended_bytes; size = length ih.size_bytes }

-- each kind is allowed with one level below it
shallow : (kind : KindOf) → IsAllowedWith 1 kind
shallow kind = refl

header_runs : (h : Header) (a x : List ℕ) (ih : IsHeader h a) → run (head_plan 1) (a ++ x) ≡ Ok (value_of h a ih, x)
header_runs h a x ih = run_again (head_plan 1) (value_of h a ih) a x ((head_laws 2 1 1 refl (omega arith)).spelled_back (value_of h a ih) a (record { header = ih; allowed = shallow h.kind; before = refl; size = refl }))

-- two headers at the front of the same bytes have the same value and leave the same rest
pub parts_once : (h k : Header) (a x b y : List ℕ) → a ++ x ≡ b ++ y → (ih : IsHeader h a) (ik : IsHeader k b) → (value_of h a ih ≡ value_of k b ik) × (x ≡ y)
parts_once h k a x b y e ih ik =
    let both : (value_of h a ih, x) ≡ (value_of k b ik, y) =
    ok_is {A = HeadValue × List ℕ} {E = Fault} (value_of h a ih, x) (value_of k b ik, y) (sym (header_runs h a x ih) ∙ ap (run (head_plan 1)) e ∙ header_runs k b y ik) in
    (ap (λ (z : HeadValue × List ℕ). z.0) both, ap (λ (z : HeadValue × List ℕ). z.1) both)

-- two headers at the front of the same bytes are equal, and have the same bytes
pub header_once : (h k : Header) (a x b y : List ℕ) → a ++ x ≡ b ++ y → IsHeader h a → IsHeader k b → (h ≡ k) × (a ≡ b)
header_once h k a x b y e ih ik =
    let t = parts_once h k a x b y e ih ik in
    (ap (λ (z : HeadValue). z.header) t.0, append_cancel_right a b y (ap (λ (z : List ℕ). a ++ z) (sym t.1) ∙ e))

rest_length : (r : Reading) → length (rest r) ≡ length r.bytes - r.place
rest_length r = grind (arith, common_steps)

-- two moves that leave the same bytes come to the same reading
moves_meet : (r a b : Reading) → IsMoved r a → IsMoved r b → rest a ≡ rest b → a ≡ b
moves_meet r a b to_a to_b same =
    let place : a.place ≡ b.place =
    omega (arith, ap length same, rest_length a, rest_length b, to_a.within, to_b.within, ap length to_a.bytes, ap length to_b.bytes) in
    reading_path a b (to_a.bytes ∙ sym to_b.bytes) place (to_a.count ∙ ap (λ (n : ℕ). added r.count (n - r.place)) place ∙ sym to_b.count)

-- a number that names no kind
pub none_kind : (n : ℕ) → (n ≡ 0) ⊎ (8 ≤ n) → kind_of_code n ≡ None
none_kind zero h = refl
none_kind (suc zero) h = absurd (omega (arith, h))
none_kind (suc (suc zero)) h = absurd (omega (arith, h))
none_kind (suc (suc (suc zero))) h = absurd (omega (arith, h))
none_kind (suc (suc (suc (suc zero)))) h = absurd (omega (arith, h))
none_kind (suc (suc (suc (suc (suc zero))))) h = absurd (omega (arith, h))
none_kind (suc (suc (suc (suc (suc (suc zero)))))) h = absurd (omega (arith, h))
none_kind (suc (suc (suc (suc (suc (suc (suc zero))))))) h = absurd (omega (arith, h))
none_kind (suc (suc (suc (suc (suc (suc (suc (suc n)))))))) h = refl

too_deep : (limit levels depth : ℕ) → depth + levels ≡ limit → 1 ≤ depth → (IsAllowedUnder limit GeometryCollection depth → ⊥) → judge_kind levels (Some GeometryCollection) ≡ Some Depth
too_deep limit zero depth sum some h = refl
too_deep limit (suc levels) depth sum some h = absurd (h (some, omega (arith, sum)))

module _ (depth : ℕ) (some : 1 ≤ depth) (deep : depth ≤ deepest) where
  -- a type byte that is refused
  type_fails : (levels b : ℕ) (behind : List ℕ) (w : Why) → judge_kind levels (kind_of_code (b % 16)) ≡ Some w → run (head_plan levels) (b ∷ behind) ≡ Err (fault w type_field (b ∷ behind))
  type_fails levels b behind w bad = rw bad refl

  fails_first : (levels : ℕ) (p f : List ℕ) (b : ℕ) (behind : List ℕ) (w : Why) → p ≡ [] → f ≡ b ∷ behind → judge_kind levels (kind_of_code (b % 16)) ≡ Some w
      → run (head_plan levels) (p ++ f) ≡ Err (fault w type_field f)
  fails_first levels p f b behind w e is bad =
      ap (λ (z : List ℕ). run (head_plan levels) (z ++ f)) e ∙ ap (run (head_plan levels)) is ∙ type_fails levels b behind w bad ∙ ap (λ (z : List ℕ). Err (fault w type_field z)) (sym is)

  -- if a field is due and it is wrong, reading fails there
  wrong_fails : (levels : ℕ) → depth + levels ≡ deepest → (p f : List ℕ) (why : Why) (due : Field) → IsBegunHeader deepest depth p due → IsWrongField deepest depth why due f → run (head_plan levels) (p ++ f) ≡ Err (fault why due f)
  wrong_fails levels sum p f Cut type_field b w = run_uncut (head_plan levels) p type_field Cut f ((head_laws deepest levels depth sum some).stops_back p type_field b) (ap cut_byte w)
  wrong_fails levels sum p f Cut byte_field b w = run_uncut (head_plan levels) p byte_field Cut f ((head_laws deepest levels depth sum some).stops_back p byte_field b) (ap cut_byte w)
  wrong_fails levels sum p f Cut number_field b w = run_uncut (head_plan levels) p number_field Cut f ((head_laws deepest levels depth sum some).stops_back p number_field b) (cut_off f w)
  wrong_fails levels sum p f Cut coordinate_field b w = absurd w
  wrong_fails levels sum p f Varint type_field b w = absurd w
  wrong_fails levels sum p f Varint byte_field b w = absurd w
  wrong_fails levels sum p f Varint number_field b w = run_uncut (head_plan levels) p number_field Varint f ((head_laws deepest levels depth sum some).stops_back p number_field b) (too_long f w)
  wrong_fails levels sum p f Varint coordinate_field b w = absurd w
  wrong_fails levels sum p f Kind type_field b (t, behind, is, code) =
      fails_first levels p f t behind Kind (type_first deepest depth p type_field b refl) is (ap (judge_kind levels) (none_kind (t % 16) code))
  wrong_fails levels sum p f Kind byte_field b w = absurd w
  wrong_fails levels sum p f Kind number_field b w = absurd w
  wrong_fails levels sum p f Kind coordinate_field b w = absurd w
  wrong_fails levels sum p f Depth type_field b (t, behind, is, code) =
      fails_first levels p f t behind Depth (type_first deepest depth p type_field b refl) is
      (ap (judge_kind levels) (ap kind_of_code code.0 ∙ kind_code GeometryCollection) ∙ too_deep deepest levels depth sum some code.1)
  wrong_fails levels sum p f Depth byte_field b w = absurd w
  wrong_fails levels sum p f Depth number_field b w = absurd w
  wrong_fails levels sum p f Depth coordinate_field b w = absurd w
  wrong_fails levels sum p f Range type_field b w = absurd w
  wrong_fails levels sum p f Range byte_field b w = absurd w
  wrong_fails levels sum p f Range number_field b w = absurd w
  wrong_fails levels sum p f Range coordinate_field b w = absurd w

  -- if read_head answered a header, the plan reads it
  pub head_value : (r new : Reading) (head : Head) → IsSound r → (at : IsHeadAt head depth r.place (passed r new)) → IsMoved r new
      → read (head_plan (deepest - depth)) r ≡ (Ok (record { header = at.header; before = 2 + length at.is.extended_bytes; size = length at.is.size_bytes }), new)
  head_value r new head sound at moved = go (read (head_plan (deepest - depth)) r) refl
    where
      value : HeadValue
      value = record { header = at.header; before = 2 + length at.is.extended_bytes; size = length at.is.size_bytes }

      runs : run (head_plan (deepest - depth)) (rest r) ≡ Ok (value, rest new)
      runs = ap (run (head_plan (deepest - depth))) (rest-passed r new moved) ∙ run_again (head_plan (deepest - depth)) value (passed r new) (rest new)
          ((head_laws deepest (deepest - depth) depth (omega (arith, deep)) some).spelled_back value (passed r new) (record { header = at.is; allowed = allowed_with deepest (deepest - depth) depth at.header.kind (omega (arith, deep)) at.allowed; before = refl; size = refl }))

      go : (a : Answer HeadValue) → read (head_plan (deepest - depth)) r ≡ a → read (head_plan (deepest - depth)) r ≡ (Ok value, new)
      go (Ok x, b) is =
          let ok = read_ok (head_plan (deepest - depth)) r b x sound is in
          let both : (value, rest new) ≡ (x, rest b) = ok_is {A = HeadValue × List ℕ} {E = Fault} (value, rest new) (x, rest b) (sym runs ∙ ok.0) in
          let same : b ≡ new = moves_meet r b new ok.1 moved (sym (ap (λ (z : HeadValue × List ℕ). z.1) both)) in
          is ∙ ap₂ (λ (y : HeadValue) (c : Reading). (Ok y, c)) (sym (ap (λ (z : HeadValue × List ℕ). z.0) both)) same
      go (Err m, b) is = absurd (not_both (value, rest new) _ (run (head_plan (deepest - depth)) (rest r)) runs (read_err (head_plan (deepest - depth)) r b m sound is).is)

  -- if read_head refused, the plan fails
  pub head_fails : (r new : Reading) (m : Malformed) → IsSound r → new.bytes ≡ r.bytes → IsRefusedHead m depth r.place (rest r) → Fails (read (head_plan (deepest - depth)) r) m new
  head_fails r new m sound bytes bad = go (read (head_plan (deepest - depth)) r) refl
    where
      runs : run (head_plan (deepest - depth)) (rest r) ≡ Err (fault m.why bad.due bad.f)
      runs = ap (run (head_plan (deepest - depth))) bad.split ∙ wrong_fails (deepest - depth) (omega (arith, deep)) bad.p bad.f m.why bad.due bad.begun bad.wrong

      go : (a : Answer HeadValue) → read (head_plan (deepest - depth)) r ≡ a → Fails (read (head_plan (deepest - depth)) r) m new
      go (Ok x, b) is = absurd (not_both (x, rest b) _ (run (head_plan (deepest - depth)) (rest r)) (read_ok (head_plan (deepest - depth)) r b x sound is).0 runs)
      go (Err w, b) is =
          let t = read_err (head_plan (deepest - depth)) r b w sound is in
          let same : fault w.why t.due (drop w.offset r.bytes) ≡ fault m.why bad.due bad.f = err_is {A = HeadValue × List ℕ} _ _ (sym t.is ∙ runs) in
          let why : w.why ≡ m.why = ap why_in same in
          let left : length (drop w.offset r.bytes) ≡ length bad.f = ap (λ (f : Fault). length (rest_in f)) same in
          let lw : length (drop w.offset r.bytes) ≡ length r.bytes - w.offset = grind (arith, common_steps) in
          let lr : length (rest r) ≡ length r.bytes - r.place = grind (arith, common_steps) in
          let parts : length (rest r) ≡ length bad.p + length bad.f = ap length bad.split ∙ length-append bad.p bad.f in
          let offset : w.offset ≡ m.offset = omega (arith, left, lw, lr, parts, t.within, t.ahead, bad.offset, sound.within) in
          let named : w ≡ m = λ j. record { offset = offset j; why = why j } in
          record { left = b; is = is ∙ ap (λ (x : Malformed). (Err x, b)) named; bytes = bytes ∙ sym (ap (λ (c : Reading). c.bytes) t.left) }
