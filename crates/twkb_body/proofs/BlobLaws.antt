-- The reader of blobs agrees with the definitions, and the laws of blobs.
use Rattle.twkb_body.proofs.Prelude.{◌≡◌, ◌≢◌, ℕ, zero, suc, ◌+◌, ◌-◌, ◌%◌, ◌≤◌, Bool, true, false, cond, List, [], ◌∷◌, ◌++◌, Some, None, Ok, Err, inl, inr, ⊎_elim, refl, sym, ap, subst, ◌∙◌, arith, append-nil, append_cancel_right, GeometryCollection, Why, Cut, Varint, Depth, Range, IsCut, IsLong, Field, type_field, byte_field, number_field, coordinate_field, IsField, deepest, Request, type_byte, byte, number, field_of, judge, judge_kind, kind_of_code, cut_byte, cut_field, Fault, fault, ok_is, err_is, byte_fails, number_fails, cut_off, too_long, kind_fails, kind_code, none_kind, IsViableIn, IsRefused, no_field, no_value, run_takes, run_again, run_stops, run_fails, run_goes_on, run_uncut, run_refused, run_judged, Geometry, Blob, IsBegun, IsViable, PlanLaws, BeginsWithNoBlob, IsWrong}
use Rattle.std.proofs.Common.{◌⊎◌}
use Rattle.twkb_head.specs.declared.refusal.Why.TheVariants.{Kind as BadKind}
use Rattle.twkb_head.specs.Shared.Plan.{coordinate}
use Rattle.twkb_body.proofs.GeometryPlan.{geometry_plan, read_at, read_blob}
use Rattle.twkb_body.proofs.Geometries.{blob_laws}

-- a blob has all levels but its own below it
from_top : 1 + (deepest - 1) ≡ deepest
from_top = refl

module _ (levels depth : ℕ) (deep : depth + levels ≡ deepest) (some : 1 ≤ depth) where
  laws : PlanLaws (geometry_plan levels) (λ g front. Blob g front depth) (IsBegun depth)
  laws = blob_laws deepest levels depth deep some

  -- a geometry that is read is a blob
  pub read_takes : (bytes rest : List ℕ) (g : Geometry) → read_at levels bytes ≡ Ok (g, rest) → (front : List ℕ) × (bytes ≡ front ++ rest) × Blob g front depth
  read_takes bytes rest g e =
      let t = run_takes (geometry_plan levels) bytes (g, rest) e in
      (t.0, t.1, laws.spelled g t.0 t.2)

  -- a blob is read, whatever follows it
  pub read_again : (g : Geometry) (front rest : List ℕ) → Blob g front depth → read_at levels (front ++ rest) ≡ Ok (g, rest)
  read_again g front rest b = run_again (geometry_plan levels) g front rest (laws.spelled_back g front b)

  -- a begun blob is cut where its bytes end
  pub read_begun : (p : List ℕ) (due : Field) → IsBegun depth p due → read_at levels p ≡ Err (fault Cut due [])
  read_begun p due b = run_stops (geometry_plan levels) p due (laws.stops_back p due b)

  -- the tree and the end are unique, and no blob is a proper prefix of another
  pub blob_once : (g h : Geometry) (a b x y : List ℕ) → Blob g a depth → Blob h b depth → a ++ x ≡ b ++ y → (g ≡ h) × (a ≡ b) × (x ≡ y)
  blob_once g h a b x y ba bb e =
      let both : (g, x) ≡ (h, y) = ok_is {A = Geometry × List ℕ} {E = Fault} (g, x) (h, y) (sym (read_again g a x ba) ∙ ap (read_at levels) e ∙ read_again h b y bb) in
      let rests : x ≡ y = ap (λ (z : Geometry × List ℕ). z.1) both in
      (ap (λ (z : Geometry × List ℕ). z.0) both, append_cancel_right a b x (e ∙ ap (λ (z : List ℕ). b ++ z) (sym rests)), rests)

  -- at most one kind of field is due, and none after a whole blob
  pub one_due : (p : List ℕ) (a b : Field) → IsBegun depth p a → IsBegun depth p b → a ≡ b
  one_due p a b x y = due_same (err_is {A = Geometry × List ℕ} {E = Fault} (fault Cut a []) (fault Cut b []) (sym (read_begun p a x) ∙ read_begun p b y))
    where
      due_of : Fault → Field
      due_of (fault w d f) = d

      due_same : fault Cut a [] ≡ fault Cut b [] → a ≡ b
      due_same e = ap due_of e

  pub none_due : (p : List ℕ) (g : Geometry) (due : Field) → Blob g p depth → IsBegun depth p due → ⊥
  none_due p g due b x = apart (sym (ap (read_at levels) (append-nil p)) ∙ read_again g p [] b) (read_begun p due x)
    where
      apart : read_at levels p ≡ Ok (g, []) → read_at levels p ≡ Err (fault Cut due []) → ⊥
      apart e e' = cc

  abbrev pub IsViableAt : List ℕ → Type 0
  IsViableAt p = ((g : Geometry) × Blob g p depth) ⊎ ((due : Field) × IsBegun depth p due)

  viable_in : (p : List ℕ) → IsViableAt p → IsViableIn (geometry_plan levels) p
  viable_in p (inl (g, b)) = inl (g, laws.spelled_back g p b)
  viable_in p (inr (due, b)) = inr (due, laws.stops_back p due b)

  in_viable : (p : List ℕ) → IsViableIn (geometry_plan levels) p → IsViableAt p
  in_viable p (inl (g, b)) = inl (g, laws.spelled g p b)
  in_viable p (inr (due, b)) = inr (due, laws.stops p due b)

  -- viable bytes go on, after a begun prefix, by one field of the kind that is due, and are viable up to its end
  pub goes_on : (p rest : List ℕ) (due : Field) → IsBegun depth p due → IsViableAt (p ++ rest) → rest ≢ []
      → (front : List ℕ) × (behind : List ℕ) × (rest ≡ front ++ behind) × IsField due front × IsViableAt (p ++ front)
  goes_on p rest due b v more =
      let t = run_goes_on (geometry_plan levels) p rest due (laws.stops_back p due b) (viable_in (p ++ rest) v) more in
      (t.0, t.1, t.2, t.3, in_viable (p ++ t.0) t.4)

-- ---- faults
top : PlanLaws (geometry_plan (deepest - 1)) (λ g front. Blob g front 1) (IsBegun 1)
top = laws (deepest - 1) 1 from_top (omega arith)

out_of_range : (b : Bool) (why : Why) → cond b None (Some Range) ≡ Some why → why ≡ Range
out_of_range true why e = absurd (cc (e))
out_of_range false why e = cc (e)

not_viable : (p : List ℕ) → (IsViableIn (geometry_plan (deepest - 1)) p → ⊥) → IsViable p → ⊥
not_viable p h v = h (viable_in (deepest - 1) 1 from_top (omega arith) p v)

wrong_cut : (due : Field) (why : Why) (p f : List ℕ) → cut_field due f ≡ Err why → IsWrong why due p f
wrong_cut type_field why p f e = let t = byte_fails f why e in subst (λ (w : Why). IsWrong w type_field p f) (sym t.0) t.1
wrong_cut byte_field why p f e = let t = byte_fails f why e in subst (λ (w : Why). IsWrong w byte_field p f) (sym t.0) t.1
wrong_cut number_field why p f e = ⊎_elim
    (λ (c : (why ≡ Cut) × IsCut f). subst (λ (w : Why). IsWrong w number_field p f) (sym c.0) c.1)
    (λ (c : (why ≡ Varint) × IsLong f). subst (λ (w : Why). IsWrong w number_field p f) (sym c.0) c.1)
    (number_fails f why e)
wrong_cut coordinate_field why p f e = ⊎_elim
    (λ (c : (why ≡ Cut) × IsCut f). subst (λ (w : Why). IsWrong w coordinate_field p f) (sym c.0) c.1)
    (λ (c : (why ≡ Varint) × IsLong f). subst (λ (w : Why). IsWrong w coordinate_field p f) (sym c.0) c.1)
    (number_fails f why e)

wrong_value : (r : Request) (why : Why) (p front behind f : List ℕ) → f ≡ front ++ behind → IsField (field_of r) front → judge r front ≡ Some why
    → (IsViable (p ++ front) → ⊥) → IsWrong why (field_of r) p f
wrong_value (type_byte levels) why p front behind f parts (b, e) bad none =
    ⊎_elim
    (λ (c : (why ≡ BadKind) × ((b % 16 ≡ 0) ⊎ (8 ≤ b % 16))). subst (λ (w : Why). IsWrong w type_field p f) (sym c.0) (b, behind, whole, c.1))
    (λ (c : (why ≡ Depth) × (b % 16 ≡ 7)). subst (λ (w : Why). IsWrong w type_field p f) (sym c.0)
    (b, behind, whole, (c.1, subst (λ (z : List ℕ). IsViable (p ++ z) → ⊥) e none)))
    (kind_fails levels b (kind_of_code (b % 16)) why refl (subst (λ (z : List ℕ). judge (type_byte levels) z ≡ Some why) e bad))
  where
    whole : f ≡ b ∷ behind
    whole = parts ∙ ap (λ (z : List ℕ). z ++ behind) e
wrong_value byte why p front behind f parts field bad none = absurd (cc (bad))
wrong_value number why p front behind f parts field bad none = absurd (cc (bad))
wrong_value (coordinate c) why p front behind f parts (n, spells) bad none =
    subst (λ (w : Why). IsWrong w coordinate_field p f) (sym (out_of_range _ why bad)) (front, behind, n, parts, spells, none)

wrong_of : (p : List ℕ) (why : Why) (due : Field) (f : List ℕ) → IsRefused (geometry_plan (deepest - 1)) p why due f → IsWrong why due p f
wrong_of p why due f (no_field cut) = wrong_cut due why p f cut
wrong_of p why due f (no_value r front behind is parts field bad none) =
    subst (λ (d : Field). IsWrong why d p f) (sym is)
    (wrong_value r why p front behind f parts (subst (λ (d : Field). IsField d front) is field) bad (not_viable (p ++ front) none))

-- if reading fails, a field is due, and the field there has just that fault
pub read_fails : (bytes : List ℕ) (why : Why) (due : Field) (f : List ℕ) → read_blob bytes ≡ Err (fault why due f)
    → (p : List ℕ) × (bytes ≡ p ++ f) × IsBegun 1 p due × IsWrong why due p f
read_fails bytes why due f e =
    let t = run_fails (geometry_plan (deepest - 1)) bytes why due f e in
    (t.p, t.parts, top.stops t.p due t.stops, wrong_of t.p why due f t.refused)

-- each request for a type byte that names no kind refuses it
refuses_kind : (b : ℕ) → (b % 16 ≡ 0) ⊎ (8 ≤ b % 16) → (r : Request) → type_field ≡ field_of r → judge r (b ∷ []) ≡ Some BadKind
refuses_kind b h (type_byte levels) e = ap (judge_kind levels) (none_kind (b % 16) h)
refuses_kind b h byte e = absurd (cc (e))
refuses_kind b h number e = absurd (cc (e))
refuses_kind b h (coordinate c) e = absurd (cc (e))

deep_kind : (levels : ℕ) (why : Why) → judge_kind levels (Some GeometryCollection) ≡ Some why → why ≡ Depth
deep_kind zero why e = cc (e)
deep_kind (suc levels) why e = absurd (cc (e))

refuses_depth : (b : ℕ) (why : Why) → b % 16 ≡ 7 → (r : Request) → type_field ≡ field_of r → judge r (b ∷ []) ≡ Some why → why ≡ Depth
refuses_depth b why h (type_byte levels) e j = deep_kind levels why (ap (judge_kind levels) (sym (kind_code GeometryCollection) ∙ ap kind_of_code (sym h)) ∙ j)
refuses_depth b why h byte e j = absurd (cc (e))
refuses_depth b why h number e j = absurd (cc (e))
refuses_depth b why h (coordinate c) e j = absurd (cc (e))

refuses_range : (front : List ℕ) (why : Why) (r : Request) → coordinate_field ≡ field_of r → judge r front ≡ Some why → why ≡ Range
refuses_range front why (type_byte levels) e j = absurd (cc (e))
refuses_range front why byte e j = absurd (cc (e))
refuses_range front why number e j = absurd (cc (e))
refuses_range front why (coordinate c) e j = out_of_range _ why j

module _ (p f : List ℕ) where
  abbrev pub Fails : Why → Field → Type 0
  Fails why due = read_blob (p ++ f) ≡ Err (fault why due f)

  uncut : (why : Why) (due : Field) → IsBegun 1 p due → cut_field due f ≡ Err why → Fails why due
  uncut why due b e = run_uncut (geometry_plan (deepest - 1)) p due why f (top.stops_back p due b) e

  refused : (why : Why) (due : Field) (front behind : List ℕ) → IsBegun 1 p due → f ≡ front ++ behind → IsField due front → (IsViable (p ++ front) → ⊥)
      → ((w : Why) (r : Request) → due ≡ field_of r → judge r front ≡ Some w → w ≡ why) → Fails why due
  refused why due front behind b parts field none only =
      let t = run_refused (geometry_plan (deepest - 1)) p due front behind (top.stops_back p due b) field
      (λ v. none (in_viable (deepest - 1) 1 from_top (omega arith) (p ++ front) v)) in
      subst (λ (z : List ℕ). read_blob (p ++ z) ≡ Err (fault why due z)) (sym parts)
      (t.4 ∙ ap (λ (w : Why). Err (fault w due (front ++ behind))) (only t.1 t.0 t.2 t.3))

  -- if a kind of field is due after p, and the field at f is wrong, reading fails there, for just that fault
  pub wrong_fails : (why : Why) (due : Field) → IsBegun 1 p due → IsWrong why due p f → Fails why due
  wrong_fails Cut type_field b w = uncut Cut type_field b (ap cut_byte w)
  wrong_fails Cut byte_field b w = uncut Cut byte_field b (ap cut_byte w)
  wrong_fails Cut number_field b w = uncut Cut number_field b (cut_off f w)
  wrong_fails Cut coordinate_field b w = uncut Cut coordinate_field b (cut_off f w)
  wrong_fails Varint type_field b w = absurd w
  wrong_fails Varint byte_field b w = absurd w
  wrong_fails Varint number_field b w = uncut Varint number_field b (too_long f w)
  wrong_fails Varint coordinate_field b w = uncut Varint coordinate_field b (too_long f w)
  wrong_fails BadKind type_field b (t, behind, parts, code) =
      subst (λ (z : List ℕ). read_blob (p ++ z) ≡ Err (fault BadKind type_field z)) (sym parts)
      (run_judged (geometry_plan (deepest - 1)) p type_field BadKind (t ∷ []) behind (top.stops_back p type_field b) (t, refl) (refuses_kind t code))
  wrong_fails BadKind byte_field b w = absurd w
  wrong_fails BadKind number_field b w = absurd w
  wrong_fails BadKind coordinate_field b w = absurd w
  wrong_fails Depth type_field b (t, behind, parts, (code, none)) = refused Depth type_field (t ∷ []) behind b parts (t, refl) none (λ w r e j. refuses_depth t w code r e j)
  wrong_fails Depth byte_field b w = absurd w
  wrong_fails Depth number_field b w = absurd w
  wrong_fails Depth coordinate_field b w = absurd w
  wrong_fails Range type_field b w = absurd w
  wrong_fails Range byte_field b w = absurd w
  wrong_fails Range number_field b w = absurd w
  wrong_fails Range coordinate_field b (front, behind, n, parts, spells, none) = refused Range coordinate_field front behind b parts (n, spells) none (λ w r e j. refuses_range front w r e j)

-- if reading fails, no prefix is a blob
pub fails_none : (bytes : List ℕ) (e : Fault) → read_blob bytes ≡ Err e → BeginsWithNoBlob bytes
fails_none bytes e fails g front behind parts b =
    apart (ap read_blob parts ∙ read_again (deepest - 1) 1 from_top (omega arith) g front behind b)
  where
    apart : read_blob bytes ≡ Ok (g, behind) → ⊥
    apart ok = cc (fails, ok)
