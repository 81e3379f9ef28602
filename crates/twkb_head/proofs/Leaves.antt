-- The laws of plans of one field, and of such fields one after another.
use Rattle.twkb_head.proofs.Prelude.{◌≡◌, ℕ, ◌<◌, Bool, true, false, cond, List, [], ◌∷◌, ◌++◌, length, slice_index, ℤ, pos, ◌+ℤ◌, Some, None, inl, inr, refl, sym, ap, subst, ◌∙◌, append-nil, Range, Spells, sum_of_groups, zigzag_value, IsSigned, Sequence, Times, IsByte, Field, byte_field, number_field, coordinate_field, IsFewer, Request, byte, number, coordinate, field_of, fits, done, ask, byte_plan, number_plan, signed_plan, signeds_plan, coordinate_plan}
use Rattle.twkb_head.proofs.Spelling.{IsGood, Spelled, Stops}
use Rattle.twkb_head.proofs.Combinators.{PlanLaws, restated, BegunMany, times_laws, free, FitAll}

-- no byte is there yet of the field that is due
abbrev pub IsDue : Field → List ℕ → Field → Type 0
IsDue field p due = (p ≡ []) × (due ≡ field)

pub leaf_laws : {A : Type 0} (r : Request) (g : List ℕ → A)
    → PlanLaws (ask r (λ field. done (g field))) (λ y bytes. IsGood r bytes × (y ≡ g bytes)) (IsDue (field_of r))
leaf_laws {A} r g = record {
  spelled = whole;
  spelled_back = λ y bytes h. (bytes, [], sym (append-nil bytes), h.0, (h.1, refl));
  stops = begun;
  stops_back = λ p due h. inl h;
}
  where
    whole : (y : A) (bytes : List ℕ) → Spelled (ask r (λ field. done (g field))) y bytes → IsGood r bytes × (y ≡ g bytes)
    whole y bytes (front, rest, parts, ok, (e, nil)) =
        let same : front ≡ bytes = sym (parts ∙ ap (λ (z : List ℕ). front ++ z) nil ∙ append-nil front) in
        (subst (IsGood r) same ok, e ∙ ap g same)

    begun : (p : List ℕ) (due : Field) → Stops (ask r (λ field. done (g field))) p due → IsDue (field_of r) p due
    begun p due (inl h) = h
    begun p due (inr (front, rest, parts, ok, more)) = absurd more

-- a byte alone is the byte at its front
pub byte_alone : (b : ℕ) (bytes : List ℕ) → (c : ℕ) × (bytes ≡ c ∷ []) → b ≡ slice_index bytes 0 → bytes ≡ b ∷ []
byte_alone b bytes (c, is) e = is ∙ ap (λ (d : ℕ). d ∷ []) (sym (e ∙ ap (λ (z : List ℕ). slice_index z 0) is))

pub byte_laws : PlanLaws byte_plan IsByte (IsDue byte_field)
byte_laws = restated (leaf_laws byte (λ (field : List ℕ). slice_index field 0)) (λ b bytes h. byte_alone b bytes h.0.0 h.1)
    (λ b bytes is. (((b, is), refl), sym (ap (λ (z : List ℕ). slice_index z 0) is))) (λ p due b. b) (λ p due b. b)

-- the number that a varint spells
abbrev pub IsNumber : ℕ → List ℕ → Type 0
IsNumber n bytes = Spells bytes n

pub number_laws : PlanLaws number_plan (λ n bytes. Spells bytes n) (IsDue number_field)
number_laws = restated (leaf_laws number (sum_of_groups 0)) (λ n bytes h. subst (Spells bytes) (h.0.0.1.value ∙ sym h.1) h.0.0.1)
    (λ n bytes s. (((n, s), refl), s.value)) (λ p due b. b) (λ p due b. b)

signed_from : (z : ℤ) (bytes : List ℕ) → (n : ℕ) × Spells bytes n → z ≡ zigzag_value (sum_of_groups 0 bytes) → IsSigned z bytes
signed_from z bytes (n, s) e = (n, s, sym (e ∙ ap zigzag_value (sym s.value)))

signed_is : (z : ℤ) (bytes : List ℕ) → IsSigned z bytes → z ≡ zigzag_value (sum_of_groups 0 bytes)
signed_is z bytes (n, s, e) = sym e ∙ ap zigzag_value s.value

pub signed_laws : PlanLaws signed_plan IsSigned (IsDue number_field)
signed_laws = restated (leaf_laws number (λ (field : List ℕ). zigzag_value (sum_of_groups 0 field))) (λ z bytes h. signed_from z bytes h.0.0 h.1)
    (λ z bytes s. (((s.0, s.1), refl), signed_is z bytes s)) (λ p due b. b) (λ p due b. b)

in_range : (b : Bool) → cond b None (Some Range) ≡ None → b ≡ true
in_range true e = refl
in_range false e = absurd (cc (e))

pub coordinate_laws : (c : ℤ) → PlanLaws (coordinate_plan c) (λ z bytes. IsSigned z bytes × (fits (c +ℤ z) ≡ true)) (IsDue coordinate_field)
coordinate_laws c =
    restated (leaf_laws (coordinate c) (λ (field : List ℕ). zigzag_value (sum_of_groups 0 field))) whole back (λ p due b. b) (λ p due b. b)
  where
    whole : (z : ℤ) (bytes : List ℕ) → IsGood (coordinate c) bytes × (z ≡ zigzag_value (sum_of_groups 0 bytes))
        → IsSigned z bytes × (fits (c +ℤ z) ≡ true)
    whole z bytes (good, e) = (signed_from z bytes good.0 e, ap (λ (y : ℤ). fits (c +ℤ y)) e ∙ in_range _ good.1)

    back : (z : ℤ) (bytes : List ℕ) → IsSigned z bytes × (fits (c +ℤ z) ≡ true) → IsGood (coordinate c) bytes × (z ≡ zigzag_value (sum_of_groups 0 bytes))
    back z bytes (s, fit) =
        let is = signed_is z bytes s in
        (((s.0, s.1), ap (λ (y : ℤ). cond (fits (c +ℤ y)) None (Some Range)) (sym is) ∙ ap (λ (b : Bool). cond b None (Some Range)) fit), is)

-- fewer than n values of one field each are whole, and no byte of the next is there
abbrev pub AreFewer : {A S : Type 0} → ℕ → (S → A → S) → (A → List ℕ → Type 0) → (S → A → Type 0) → S → Field → List ℕ → Field → Type 0
AreFewer {A} n after Q Fit s field p due = (xs : List A) × (length xs < n) × Sequence Q xs p × FitAll after Fit s xs × (due ≡ field)

module _ {A S : Type 0} {n : ℕ} {after : S → A → S} {Q : A → List ℕ → Type 0} {Fit : S → A → Type 0} {s : S} {field : Field} where
  pub fewer : (p : List ℕ) (due : Field) → BegunMany n after Q Fit (λ s. IsDue field) s p due → AreFewer n after Q Fit s field p due
  fewer p due b =
      (b.xs, b.fewer, subst (Sequence Q b.xs) (sym (b.parts ∙ ap (λ (z : List ℕ). b.wholes ++ z) b.begun.0 ∙ append-nil b.wholes)) b.whole, b.fit, b.begun.1)

  pub fewer_back : (p : List ℕ) (due : Field) → AreFewer n after Q Fit s field p due → BegunMany n after Q Fit (λ s. IsDue field) s p due
  fewer_back p due (xs, few, whole, fit, is) =
      record { xs = xs; wholes = p; rest = []; fewer = few; whole = whole; fit = fit; begun = (refl, is); parts = sym (append-nil p) }

-- signed numbers in a row
pub signeds_laws : (n : ℕ) → PlanLaws (signeds_plan n) (Times n IsSigned) (λ p due. (zs : List ℤ) × IsFewer n zs p × (due ≡ number_field))
signeds_laws n = restated (times_laws signed_laws n) (λ zs bytes h. h) (λ zs bytes h. h)
    (λ p due b. let t = fewer p due b in (t.0, (t.1, t.2), t.4)) (λ p due t. fewer_back p due (t.0, t.1.0, t.1.1, free (pos 0) t.0, t.2))
