-- Bytes that a row of a table picks are spellings, one after another.
use Rattle.twkb_num.proofs.Prelude.{◌≡◌, ℕ, zero, suc, ◌+◌, ◌-◌, ◌/◌, ◌%◌, ◌<◌, ◌≤◌, ◌^◌, Bool, true, ◌&&◌, eqb, ltb, cond, refl, sym, ap, ◌∙◌, subst, List, [], ◌∷◌, ◌++◌, length, take, drop, get_or, arith, inl, inr, and_parts, eqb-true, eqb-false, ltb-true, lt-ltb, cond-true, cond-false, cases_Bool, drop_more, drop-drop, length-take, take-add, byte_or_zero, byte_of, value_at, values, IsTops, SpellsAll}
use Rattle.twkb_num.proofs.SpellingForms.{varint_value, IsVarintForm, form_spells}
use Rattle.twkb_num.proofs.TableLaws.{length_at, none_ok, lane_ok, row_ok}

-- a byte that goes on, before a varint
form_more : (b : ℕ) (bs : List ℕ) → 128 ≤ b → IsVarintForm bs → IsVarintForm (b ∷ bs)
form_more b [] on form = absurd form
form_more b (c ∷ bs) on form = (on, form)

-- picked from the bytes by the places of a row; the mask has their tops
pub record IsPicked (bytes : List ℕ) (row : ℕ) (picked : List ℕ) (mask : ℕ) : Type 0 where
  pub picks : (i : ℕ) → i < 8 → get_or picked i 0 ≡ byte_or_zero bytes (byte_of row i)
  pub tops : (i : ℕ) → i < 8 → mask / 2 ^ i % 2 ≡ get_or bytes i 0 / 128
  pub long : 16 ≤ length bytes

-- what the places of a row pick from sixteen bytes
pub picked_row : (v places picked : List ℕ) (row tops : ℕ) → length v ≡ 16 → IsTops 8 tops v → ((i : ℕ) → i < 16 → get_or picked i 0 ≡ byte_or_zero v (get_or places i 0)) → ((i : ℕ) → i < 8 → get_or places i 0 ≡ byte_of row i)
    → IsPicked v row picked tops
picked_row v places picked row tops long are picks place = record {
  picks = λ i h. picks i (omega (arith, h)) ∙ ap (byte_or_zero v) (place i h);
  tops = are;
  long = omega (arith, long);
}

-- a place that takes nothing gives a zero
none_value : (bytes : List ℕ) (row : ℕ) (picked : List ℕ) (mask : ℕ) → IsPicked bytes row picked mask → (n i : ℕ) → none_ok n row i ≡ true → value_at n picked i ≡ 0
none_value bytes row picked mask p zero i ok = refl
none_value bytes row picked mask p (suc n) i ok =
    let one = and_parts (ltb i 8) (eqb (byte_of row i) 255 && none_ok n row (suc i)) ok in
    let two = and_parts (eqb (byte_of row i) 255) (none_ok n row (suc i)) one.1 in
    let is : get_or picked i 0 ≡ 0 = p.picks i (ltb-true i 8 one.0) ∙ ap (byte_or_zero bytes) (eqb-true (byte_of row i) 255 two.0) in
    omega (arith, is, none_value bytes row picked mask p n (suc i) two.1)

-- what a lane holds, of n places from i on, by the varint at a place
pub record LaneHolds (bytes picked : List ℕ) (n i at len : ℕ) : Type 0 where
  pub form : IsVarintForm (take len (drop at bytes))
  pub value : varint_value (take len (drop at bytes)) ≡ value_at n picked i
  pub few : at + len ≤ 8

lane_holds : (bytes : List ℕ) (row : ℕ) (picked : List ℕ) (mask : ℕ) → IsPicked bytes row picked mask → (n i at : ℕ) → lane_ok n row i mask at ≡ true → LaneHolds bytes picked n i at (length_at n mask at)
lane_holds bytes row picked mask p zero i at ok = absurd (cc ok)
lane_holds bytes row picked mask p (suc n) i at ok =
    let bit : Bool = eqb (mask / 2 ^ at % 2) 0 in
    let rest : Bool = cond bit (none_ok n row (suc i)) (lane_ok n row (suc i) mask (suc at)) in
    let one = and_parts (ltb i 8) (ltb at 8 && (eqb (byte_of row i) at && rest)) ok in
    let two = and_parts (ltb at 8) (eqb (byte_of row i) at && rest) one.1 in
    let three = and_parts (eqb (byte_of row i) at) rest two.1 in
    let there : at < 8 = ltb-true at 8 two.0 in
    let b : ℕ = get_or bytes at 0 in
    let same : at % 16 ≡ at = omega (arith, there) in
    let is : get_or picked i 0 ≡ b = p.picks i (ltb-true i 8 one.0) ∙ ap (byte_or_zero bytes) (eqb-true (byte_of row i) at three.0) ∙ cond-true (ltb at 128) _ _ (lt-ltb at 128 (omega (arith, there))) ∙ ap (λ k. get_or bytes k 0) same in
    let next : at + 1 ≡ suc at = omega arith in
    let front : drop at bytes ≡ b ∷ drop (suc at) bytes = drop_more bytes at 0 (omega (arith, there, p.long)) ∙ ap (λ k. b ∷ drop k bytes) next in
    let top = p.tops at there in
    elim (cases_Bool bit) [
      | inl ends ↦
          let zero_bit = eqb-true (mask / 2 ^ at % 2) 0 ends in
          let none = none_value bytes row picked mask p n (suc i) (sym (cond-true bit _ _ ends) ∙ three.1) in
          let len : length_at (suc n) mask at ≡ 1 = cond-true bit _ _ ends in
          let whole : take 1 (drop at bytes) ≡ b ∷ [] = ap (take 1) front in
          let end : b < 128 = omega (arith, top, zero_bit) in
          let held : LaneHolds bytes picked (suc n) i at 1 = record {
            form = subst IsVarintForm (sym whole) end;
            value = ap varint_value whole ∙ omega (arith, is, none);
            few = omega (arith, there);
          } in
          subst (λ l. LaneHolds bytes picked (suc n) i at l) (sym len) held
      | inr goes ↦
          let l : ℕ = length_at n mask (suc at) in
          let one_bit = eqb-false (mask / 2 ^ at % 2) 0 goes in
          let rec = lane_holds bytes row picked mask p n (suc i) (suc at) (sym (cond-false bit _ _ goes) ∙ three.1) in
          let len : length_at (suc n) mask at ≡ suc l = cond-false bit _ _ goes in
          let whole : take (suc l) (drop at bytes) ≡ b ∷ take l (drop (suc at) bytes) = ap (take (suc l)) front in
          let on : 128 ≤ b = omega (arith, top, one_bit) in
          let held : LaneHolds bytes picked (suc n) i at (suc l) = record {
            form = subst IsVarintForm (sym whole) (form_more b _ on rec.form);
            value = ap varint_value whole ∙ omega (arith, is, rec.value);
            few = omega (arith, rec.few);
          } in
          subst (λ l. LaneHolds bytes picked (suc n) i at l) (sym len) held
    ]

-- k lanes hold k numbers that the bytes spell, from a place on
pub record RowHolds (bytes picked : List ℕ) (n k i at stop : ℕ) : Type 0 where
  pub order : at ≤ stop
  pub spelled : SpellsAll (take (stop - at) (drop at bytes)) (values n k picked i)

pub row_holds : (bytes : List ℕ) (row : ℕ) (picked : List ℕ) (mask : ℕ) → IsPicked bytes row picked mask → (n : ℕ) → ((i : ℕ) → value_at n picked i < 2 ^ 64) → (k i at stop : ℕ) → row_ok n k row i mask at stop ≡ true → RowHolds bytes picked n k i at stop
row_holds bytes row picked mask p n small zero i at stop ok =
    let e = eqb-true at stop ok in
    let none : stop - at ≡ 0 = omega (arith, e) in
    record {
      order = omega (arith, e);
      spelled = ap (λ m. take m (drop at bytes)) none;
    }
row_holds bytes row picked mask p n small (suc k) i at stop ok =
    let l : ℕ = length_at n mask at in
    let parts = and_parts (lane_ok n row i mask at) (row_ok n k row (i + n) mask (at + l) stop) ok in
    let lane = lane_holds bytes row picked mask p n i at parts.0 in
    let rec = row_holds bytes row picked mask p n small k (i + n) (at + l) stop parts.1 in
    let more : stop - at ≡ l + (stop - (at + l)) = omega (arith, rec.order) in
    let front : List ℕ = take l (drop at bytes) in
    let short : length front ≤ 10 = omega (arith, length-take l (drop at bytes), lane.few) in
    record {
      order = omega (arith, rec.order);
      spelled = (
        front,
        take (stop - (at + l)) (drop (at + l) bytes),
        ap (λ m. take m (drop at bytes)) more ∙ take-add l (stop - (at + l)) (drop at bytes) ∙ ap (λ ds. front ++ take (stop - (at + l)) ds) (drop-drop l at bytes),
        form_spells front (value_at n picked i) lane.form short lane.value (small i),
        rec.spelled,
      );
    }
