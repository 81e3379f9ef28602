-- Bytes whose ends are counted, and the numbers that they spell. A varint may go on from one word into the next.
use Rattle.twkb_num.proofs.Prelude.{◌≡◌, ℕ, zero, suc, ◌+◌, ◌-◌, ◌^◌, ◌<◌, ◌≤◌, List, [], ◌∷◌, ◌++◌, length, take, drop, slice_index, refl, sym, ap, subst, ◌∙◌, ◌⊎◌, inl, inr, arith, length-append, length-drop, get_or-append, pow-le-pow_right, get_or-append_seam, get_or-append_right, take-add, take-append_seam, cases_lt, common_steps, take_more, append-nil, take-take, Spells, SpellsAll, sum_of_groups, SpellsMany, ended, ends_to, IsEnd, IsLastEnd, IsFrontOf}
use Rattle.std.proofs.Common.{length-take}
use Rattle.std.proofs.lemmas.List.{append_assoc}
use Rattle.twkb_num.proofs.VarintLemmas.{sum_of_groups-lt}
use Rattle.twkb_num.proofs.NthEnds.{ended_once}

-- how many bytes of an unfinished varint were passed, after one more byte: `begun` and that byte, or 0 if it ends the varint
abbrev pub begun_then : ℕ → ℕ → ℕ
begun_then begun zero = begun + 1
begun_then begun (suc e) = 0

-- how many bytes of an unfinished varint were passed after the first k bytes, if before them there were `begun`
abbrev pub begun_to : ℕ → List ℕ → ℕ → ℕ
begun_to begun bytes zero = begun
begun_to begun bytes (suc k) = begun_then (begun_to begun bytes k) (ended bytes k)

begun_then_few : (begun e : ℕ) → begun_then begun e ≤ begun + 1
begun_then_few begun zero = omega arith
begun_then_few begun (suc e) = omega arith

-- k more bytes add at most k bytes to an unfinished varint
begun_grows : (begun : ℕ) (bytes : List ℕ) (k : ℕ) → begun_to begun bytes k ≤ begun + k
begun_grows begun bytes zero = omega arith
begun_grows begun bytes (suc k) = omega (arith, begun_grows begun bytes k, begun_then_few (begun_to begun bytes k) (ended bytes k))

-- if a varint ends among the last j bytes, the unfinished one has fewer than j
begun_since : (begun : ℕ) (bytes : List ℕ) (i n j : ℕ) → n ≡ i + j → ends_to bytes i < ends_to bytes n → begun_to begun bytes n < j
begun_since begun bytes i n zero is h = let same : n ≡ i = omega (arith, is) in absurd (omega (arith, h, ap (ends_to bytes) same))
begun_since begun bytes i zero (suc j) is h = absurd (omega (arith, is))
begun_since begun bytes i (suc n) (suc j) is h = go (ended bytes n) refl (begun_since begun bytes i n j (omega (arith, is)))
  where
    go : (e : ℕ) → ended bytes n ≡ e → (ends_to bytes i < ends_to bytes n → begun_to begun bytes n < j) → begun_then (begun_to begun bytes n) (ended bytes n) < suc j
    go zero none since = rw none (let before : begun_to begun bytes n < j = since (omega (arith, h, none)) in omega (arith, before))
    go (suc e) one since = rw one (omega arith)

-- more bytes have no fewer ends
ends_to_grow : (bytes : List ℕ) (k n : ℕ) → k ≤ n → ends_to bytes k ≤ ends_to bytes n
ends_to_grow bytes k zero h = let same : k ≡ 0 = omega (arith, h) in omega (arith, ap (ends_to bytes) same)
ends_to_grow bytes k (suc n) h =
    elim (cases_lt k (suc n)) [
      | inl before ↦ omega (arith, ends_to_grow bytes k n (omega (arith, before)))
      | inr here ↦ let same : k ≡ suc n = omega (arith, h, here) in omega (arith, ap (ends_to bytes) same)
    ]

-- if the first end comes within seven bytes, no varint has more than six unfinished bytes within the word
begun_few : (begun : ℕ) (word : List ℕ) (k : ℕ) → begun + k ≤ 7 → 1 ≤ ends_to word k → (i : ℕ) → i < 8 → begun_to begun word i ≤ 6
begun_few begun word k soon end i h =
    elim (cases_lt i k) [
      | inl before ↦ omega (arith, begun_grows begun word i, soon, before)
      | inr behind ↦
          let since : begun_to begun word i < i = begun_since begun word 0 i i (omega arith) (omega (arith, end, ends_to_grow word k i behind)) in
          omega (arith, since, h)
    ]

-- The bytes spell `many` numbers, and after these come `begun` bytes of a varint that goes on.
pub record IsPassed (bytes : List ℕ) (many begun : ℕ) : Type 0 where
  pub front : List ℕ
  pub last : List ℕ
  pub whole : bytes ≡ front ++ last
  pub spells : SpellsMany front many
  pub ends : 1 ≤ length front → slice_index front (length front - 1) < 128
  pub goes_on : (k : ℕ) → k < length last → 128 ≤ slice_index last k
  pub long : length last ≡ begun

pub passed_none : IsPassed [] 0 0
passed_none = record { front = []; last = []; whole = refl; spells = record { numbers = []; count = refl; spelled = refl }; ends = λ some. absurd (omega (arith, some)); goes_on = λ k h. absurd (omega (arith, h)); long = refl }

-- one more byte, which goes on
passed_on : (bytes : List ℕ) (many begun b : ℕ) → 128 ≤ b → IsPassed bytes many begun → IsPassed (bytes ++ b ∷ []) many (begun + 1)
passed_on bytes many begun b more p = record {
  front = p.front;
  last = p.last ++ b ∷ [];
  whole = ap (λ (bs : List ℕ). bs ++ b ∷ []) p.whole ∙ append_assoc p.front p.last (b ∷ []);
  spells = p.spells;
  ends = p.ends;
  goes_on = λ k h. elim (cases_lt k (length p.last)) [
    | inl before ↦ omega (arith, p.goes_on k before, get_or-append p.last (b ∷ []) 0 k before)
    | inr behind ↦
        let here : k ≡ length p.last = omega (arith, h, behind, length-append p.last (b ∷ [])) in
        rw here (omega (arith, more, get_or-append_seam p.last b [] 0))
  ];
  long = omega (arith, length-append p.last (b ∷ []), p.long);
}

-- numbers, and one more after them
SpellsAll-push : (bytes back : List ℕ) (ns : List ℕ) (n : ℕ) → SpellsAll bytes ns → Spells back n → SpellsAll (bytes ++ back) (ns ++ n ∷ [])
SpellsAll-push bytes back [] n all last = (back, [], ap (λ (bs : List ℕ). bs ++ back) all ∙ sym (append-nil back), last, refl)
SpellsAll-push bytes back (m ∷ ns) n (front, behind, whole, first, all) last =
    (front, behind ++ back, ap (λ (bs : List ℕ). bs ++ back) whole ∙ append_assoc front behind back, first, SpellsAll-push behind back ns n all last)

-- at most six bytes that go on, and one that ends, spell a number
seven_spell : (last : List ℕ) (b : ℕ) → length last ≤ 6 → ((k : ℕ) → k < length last → 128 ≤ slice_index last k) → b < 128
    → Spells (last ++ b ∷ []) (sum_of_groups 0 (last ++ b ∷ []))
seven_spell last b few on end =
    let long : length (last ++ b ∷ []) ≡ length last + 1 = length-append last (b ∷ []) in
    let most : 128 ^ (0 + length (last ++ b ∷ [])) ≤ 128 ^ 7 = pow-le-pow_right {n = 128} (omega arith) {i = 0 + length (last ++ b ∷ [])} {j = 7} (omega (arith, long, few)) in
    let small : sum_of_groups 0 (last ++ b ∷ []) < 2 ^ 49 = omega (arith, most, sum_of_groups-lt 0 (last ++ b ∷ [])) in
    record {
      some = omega (arith, long);
      few = omega (arith, long, few);
      goes_on = λ k h. let before : k < length last = omega (arith, h, long) in omega (arith, on k before, get_or-append last (b ∷ []) 0 k before);
      ends =
          let at : length (last ++ b ∷ []) - 1 ≡ length last = omega (arith, long) in
          rw at (omega (arith, end, get_or-append_seam last b [] 0));
      value = refl;
      fits = omega (arith, small);
    }

-- the last byte of two parts and a byte more
last_below : (front last : List ℕ) (b : ℕ) → b < 128 → slice_index (front ++ (last ++ b ∷ [])) (length (front ++ (last ++ b ∷ [])) - 1) < 128
last_below front last b end =
    let at : length (front ++ (last ++ b ∷ [])) - 1 ≡ length (front ++ last) = omega (arith, length-append front (last ++ b ∷ []), length-append last (b ∷ []), length-append front last) in
    rw at (rw (← append_assoc front last (b ∷ [])) (omega (arith, end, get_or-append_seam (front ++ last) b [] 0)))

-- one more byte, which ends a varint of at most six bytes before it
passed_end : (bytes : List ℕ) (many begun b : ℕ) → b < 128 → begun ≤ 6 → IsPassed bytes many begun → IsPassed (bytes ++ b ∷ []) (many + 1) 0
passed_end bytes many begun b end few p =
    let spells = seven_spell p.last b (omega (arith, few, p.long)) p.goes_on end in
    let n : ℕ = sum_of_groups 0 (p.last ++ b ∷ []) in
    record {
      front = p.front ++ (p.last ++ b ∷ []);
      last = [];
      whole = ap (λ (bs : List ℕ). bs ++ b ∷ []) p.whole ∙ append_assoc p.front p.last (b ∷ []) ∙ sym (append-nil (p.front ++ (p.last ++ b ∷ [])));
      spells = record {
        numbers = p.spells.numbers ++ n ∷ [];
        count = length-append p.spells.numbers (n ∷ []) ∙ ap (λ (k : ℕ). k + 1) p.spells.count;
        spelled = SpellsAll-push p.front (p.last ++ b ∷ []) p.spells.numbers n p.spells.spelled spells;
      };
      ends = λ some. last_below p.front p.last b end;
      goes_on = λ k h. absurd (omega (arith, h));
      long = refl;
    }

module _ (bytes word : List ℕ) (many begun : ℕ) (p : IsPassed bytes many begun) where
  -- the first bytes of a word, where no varint takes more than seven
  pub passed_to : (k : ℕ) → k ≤ length word → ((i : ℕ) → i < k → begun_to begun word i ≤ 6) → IsPassed (bytes ++ take k word) (many + ends_to word k) (begun_to begun word k)
  passed_to zero within few =
      let none : many + 0 ≡ many = omega arith in
      rw none (subst (λ (bs : List ℕ). IsPassed bs many begun) (sym (append-nil bytes)) p)
  passed_to (suc k) within few =
      subst (λ (bs : List ℕ). IsPassed bs (many + (ends_to word k + ended word k)) (begun_then (begun_to begun word k) (ended word k))) same
      (go (ended word k) refl (passed_to k (omega (arith, within)) (λ i h. few i (omega (arith, h)))))
    where
      same : (bytes ++ take k word) ++ slice_index word k ∷ [] ≡ bytes ++ take (suc k) word
      same = append_assoc bytes (take k word) (slice_index word k ∷ []) ∙ ap (λ (bs : List ℕ). bytes ++ bs) (sym (take_more word k 0 (omega (arith, within))) ∙ (let e : k + 1 ≡ suc k = omega arith in ap (λ (n : ℕ). take n word) e))

      go : (e : ℕ) → ended word k ≡ e → IsPassed (bytes ++ take k word) (many + ends_to word k) (begun_to begun word k)
          → IsPassed ((bytes ++ take k word) ++ slice_index word k ∷ []) (many + (ends_to word k + ended word k)) (begun_then (begun_to begun word k) (ended word k))
      go zero is before = let count : many + (ends_to word k + 0) ≡ many + ends_to word k = omega arith in
          rw (is, count) (passed_on (bytes ++ take k word) (many + ends_to word k) (begun_to begun word k) (slice_index word k) (omega (arith, is)) before)
      go (suc zero) is before = let count : many + (ends_to word k + 1) ≡ many + ends_to word k + 1 = omega arith in
          rw (is, count) (passed_end (bytes ++ take k word) (many + ends_to word k) (begun_to begun word k) (slice_index word k) (omega (arith, is)) (few k (omega arith)) before)
      go (suc (suc e)) is before = absurd (omega (arith, is, ended_once word k))

-- the low bytes of the next word that need an end, if `begun` bytes of a varint were passed before it
abbrev pub IsLow : ℕ → ℕ → Type 0
IsLow low begun = ((low ≡ 2 ^ 56 - 1) × (begun ≡ 0)) ⊎ ((low ≡ 2 ^ 32 - 1) × (begun ≤ 3))

-- The first `done` bytes spell all but `left` of the numbers, and then perhaps the begin of the next.
pub record IsEndsLoop (bytes : List ℕ) (many left done low : ℕ) : Type 0 where
  pub begun : ℕ
  pub passed : IsPassed (take done bytes) (many - left) begun
  pub below : IsLow low begun
  pub within : done ≤ length bytes
  pub few : left ≤ many

-- if no byte of an unfinished varint was passed, the bytes spell the numbers
closed : (bytes : List ℕ) (many begun : ℕ) → begun ≡ 0 → IsPassed bytes many begun → SpellsMany bytes many
closed bytes many begun none p = subst (λ (bs : List ℕ). SpellsMany bs many) (sym (p.whole ∙ ap (λ (bs : List ℕ). p.front ++ bs) (empty p.last (p.long ∙ none)) ∙ append-nil p.front)) p.spells
  where
    empty : (bs : List ℕ) → length bs ≡ 0 → bs ≡ []
    empty [] e = refl
    empty (b ∷ bs) e = absurd (omega (arith, e))

-- the bytes from a place to the end
pub take-behind : (bytes : List ℕ) (done : ℕ) → take (length bytes - done) (drop done bytes) ≡ drop done bytes
take-behind bytes done = grind (arith, common_steps)

pub ends_begin : (bytes : List ℕ) (many : ℕ) → IsEndsLoop bytes many many 0 (2 ^ 56 - 1)
ends_begin bytes many = record {
  begun = 0;
  passed = let none : many - many ≡ 0 = omega arith in rw none passed_none;
  below = inl (refl, refl);
  within = omega arith;
  few = omega arith;
}

-- the last end is where the numbers passed so far end
last_front : (bytes : List ℕ) (many begun size : ℕ) (p : IsPassed bytes many begun) → IsLastEnd bytes size → size ≡ length p.front
last_front bytes many begun size p l = elim (cases_lt size (length p.front)) [
  | inl less ↦ let k : ℕ = length p.front - 1 in absurd (omega (arith, less, long, p.ends (omega (arith, less)), before k (omega (arith, less)), l.goes_on k (omega (arith, less)) (omega (arith, less, long))))
  | inr more ↦
      elim (cases_lt (length p.front) size) [
        | inl over ↦ let k : ℕ = size - 1 in absurd (omega (arith, over, long, l.within, l.ends (omega (arith, over)), behind k (omega (arith, over)), p.goes_on (k - length p.front) (omega (arith, over, long, l.within))))
        | inr same ↦ omega (arith, more, same)
      ]
]
  where
    long : length bytes ≡ length p.front + length p.last
    long = ap length p.whole ∙ length-append p.front p.last

    before : (k : ℕ) → k < length p.front → slice_index bytes k ≡ slice_index p.front k
    before k h = ap (λ (bs : List ℕ). slice_index bs k) p.whole ∙ get_or-append p.front p.last 0 k h

    behind : (k : ℕ) → length p.front ≤ k → slice_index bytes k ≡ slice_index p.last (k - length p.front)
    behind k h = ap (λ (bs : List ℕ). slice_index bs k) p.whole ∙ get_or-append_right p.front p.last k 0 h

-- the bytes up to the last end spell the numbers
last_spells : (bytes : List ℕ) (many begun size : ℕ) → IsPassed bytes many begun → IsLastEnd bytes size → SpellsMany (take size bytes) many
last_spells bytes many begun size p l = subst (λ (bs : List ℕ). SpellsMany bs many) (sym (ap (take size) p.whole ∙ ap (λ (n : ℕ). take n (p.front ++ p.last)) (last_front bytes many begun size p l) ∙ take-append_seam p.front p.last)) p.spells

-- if a word doesn't show enough ends, the bytes up to the last end before it spell the numbers so far
ends_stop : (bytes : List ℕ) (many begun done size : ℕ) → IsPassed (take done bytes) many begun → done ≤ length bytes → IsLastEnd (take done bytes) size → IsFrontOf bytes many size
ends_stop bytes many begun done size p within l =
    let few : size ≤ done = omega (arith, l.within, length-take done bytes, within) in
    record {
      within = omega (arith, few, within);
      spells = subst (λ (bs : List ℕ). SpellsMany bs many) (take-take size done bytes few) (last_spells (take done bytes) many begun size p l);
    }

pub loop_stops : (bytes : List ℕ) (many left done low size : ℕ) → IsEndsLoop bytes many left done low → IsLastEnd (take done bytes) size → IsFrontOf bytes (many - left) size
loop_stops bytes many left done low size l last = ends_stop bytes (many - left) l.begun done size l.passed l.within last

module _ (bytes : List ℕ) (many left done low : ℕ) (l : IsEndsLoop bytes many left done low) (word : List ℕ) (is : word ≡ take 8 (drop done bytes)) (enough : 8 ≤ length (drop done bytes))
    (seven : low ≡ 2 ^ 56 - 1 → 1 ≤ ends_to word 7) (four : low ≡ 2 ^ 32 - 1 → 1 ≤ ends_to word 4) where
  -- the varint that is begun ends within seven bytes
  near : (k : ℕ) × (l.begun + k ≤ 7) × (1 ≤ ends_to word k)
  near = elim l.below [
    | inl first ↦ (7, omega (arith, first.1), seven first.0)
    | inr other ↦ (4, omega (arith, other.1), four other.0)
  ]

  long : length word ≡ 8
  long = ap length is ∙ omega (arith, length-take 8 (drop done bytes), enough)

  -- `size` more bytes, which are the first of the word
  passed_in : (size : ℕ) → size ≤ 8 → IsPassed (take (done + size) bytes) (many - left + ends_to word size) (begun_to l.begun word size)
  passed_in size few =
      let front : take size word ≡ take size (drop done bytes) = ap (take size) is ∙ take-take size 8 (drop done bytes) few in
      let whole : take done bytes ++ take size word ≡ take (done + size) bytes = ap (λ (bs : List ℕ). take done bytes ++ bs) front ∙ sym (take-add done size bytes) in
      subst (λ (bs : List ℕ). IsPassed bs (many - left + ends_to word size) (begun_to l.begun word size)) whole
      (passed_to (take done bytes) word (many - left) l.begun l.passed size (omega (arith, few, long)) (λ i h. begun_few l.begun word near.0 near.1 near.2 i (omega (arith, h, few))))

  reaches : done + 8 ≤ length bytes
  reaches = omega (arith, l.within, enough, length-drop done bytes)

  -- the last number ends in the word
  pub ends_here : (size : ℕ) → IsEnd word left size → IsFrontOf bytes many (done + size)
  ends_here size end = record {
    within = omega (arith, reaches, end.few);
    spells =
        let count : many - left + ends_to word size ≡ many = omega (arith, end.count, l.few) in
        subst (SpellsMany (take (done + size) bytes)) count (closed (take (done + size) bytes) (many - left + ends_to word size) (begun_to l.begun word size) (nothing_begun size end.some end.ends) (passed_in size end.few));
  }
    where
      nothing_begun : (size : ℕ) → 1 ≤ size → ended word (size - 1) ≡ 1 → begun_to l.begun word size ≡ 0
      nothing_begun zero some last = absurd (omega (arith, some))
      nothing_begun (suc size) some last =
          let at : suc size - 1 ≡ size = omega arith in
          ap (begun_then (begun_to l.begun word size)) (sym (ap (ended word) at) ∙ last)

  -- all numbers that end in the word are passed, and the next word follows
  pub ends_go_on : (here : ℕ) → here ≡ ends_to word 8 → here < left → ends_to word 4 < ends_to word 8 → IsEndsLoop bytes many (left - here) (done + 8) (2 ^ 32 - 1)
  ends_go_on here here_is fewer high = record {
    begun = begun_to l.begun word 8;
    passed =
        let count : many - left + ends_to word 8 ≡ many - (left - here) = omega (arith, here_is, fewer, l.few) in
        subst (λ (n : ℕ). IsPassed (take (done + 8) bytes) n (begun_to l.begun word 8)) count (passed_in 8 (omega arith));
    below = inr (refl, let since : begun_to l.begun word 8 < 4 = begun_since l.begun word 4 8 4 refl high in omega (arith, since));
    within = reaches;
    few = omega (arith, fewer, l.few);
  }
