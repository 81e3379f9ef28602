-- Signed numbers that a cursor reads, one after another, or the fault of one of them, are what the readers of ranges answer.
use Rattle.twkb_head.proofs.Prelude.{◌≡◌, ℕ, ◌-◌, ◌<◌, List, [], ◌∷◌, ◌++◌, length, drop, slice_index_or, ℤ, pos, ◌+ℤ◌, Ok, Err, refl, sym, ap, ap₂, subst, ◌∙◌, arith, common_steps, append-nil, Reading, passed, rest, counted, IsSigned, SpellsAllSigned, Faults, looked_at, NumFault, IsMoved-two, signed_at, range_from, two_ranges_from, ends_of, why_of, RawRange, Malformed}
use Rattle.std.specs.Prelude.{◌≢◌}
use Rattle.twkb_num.specs.Numbers.{ReadsNumbers, StopsReading, StopsAt}
use Rattle.twkb_head.proofs.Readings.{reading_path}
use Rattle.twkb_head.proofs.Steps.{read_signed, read_no_signed}

-- the first of some numbers was read, and then the others
first_read : (z : ℤ) (zs : List ℤ) (old new : Reading) → ReadsNumbers old new (z ∷ zs) → (mid : Reading) × (signed_at old ≡ (Ok z, mid)) × ReadsNumbers mid new zs
first_read z zs old new read =
    let all = read.spelled in
    let way = IsMoved-two old new all.0 all.1 read.moved all.2 in
    let here : IsSigned z (passed old way.0) = subst (λ bytes. IsSigned z bytes) (sym way.3) all.3 in
    (way.0, read_signed old way.0 z here way.1, record { spelled = subst (λ bytes. SpellsAllSigned bytes zs) (sym way.4) all.4; moved = way.2 })

-- one number was read
one_read : (z : ℤ) (old new : Reading) → ReadsNumbers old new (z ∷ []) → signed_at old ≡ (Ok z, new)
one_read z old new read =
    let all = read.spelled in
    let whole : passed old new ≡ all.0 = all.2 ∙ ap (λ bytes. all.0 ++ bytes) all.4 ∙ append-nil all.0 in
    read_signed old new z (subst (λ bytes. IsSigned z bytes) (sym whole) all.3) read.moved

pub range_read : (low width : ℤ) (old new : Reading) → ReadsNumbers old new (low ∷ width ∷ []) → range_from old ≡ (Ok (low, low +ℤ width), new)
unfolding range_from
range_read low width old new read =
    let first = first_read low (width ∷ []) old new read in
    rw (first.1, one_read width first.0 new first.2) refl

-- four numbers are two ranges, one after the other
ranges_read : (low width next more : ℤ) (old new : Reading) → ReadsNumbers old new (low ∷ width ∷ next ∷ more ∷ []) → (between : Reading) × (range_from old ≡ (Ok (low, low +ℤ width), between)) × (range_from between ≡ (Ok (next, next +ℤ more), new))
unfolding range_from
ranges_read low width next more old new read =
    let first = first_read low (width ∷ next ∷ more ∷ []) old new read in
    let second = first_read width (next ∷ more ∷ []) first.0 new first.2 in
    let third = first_read next (more ∷ []) second.0 new second.2 in
    (second.0, rw (first.1, second.1) refl, rw (third.1, one_read more third.0 new third.2) refl)

-- numbers as the code holds them, in a list of two or four
pub range_held : (numbers : List ℤ) (low width : ℤ) (old new : Reading) → length numbers ≡ 2 → low ≡ slice_index_or numbers 0 (pos 0) → width ≡ slice_index_or numbers 1 (pos 0)
    → ReadsNumbers old new numbers → range_from old ≡ (Ok (low, low +ℤ width), new)
range_held [] low width old new long low_is width_is read = absurd (omega (arith, long))
range_held (a ∷ []) low width old new long low_is width_is read = absurd (omega (arith, long))
range_held (a ∷ b ∷ []) low width old new long low_is width_is read = range_read a b old new read ∙ ap₂ (λ (x y : ℤ). (Ok (x, x +ℤ y), new)) (sym low_is) (sym width_is)
range_held (a ∷ b ∷ c ∷ zs) low width old new long low_is width_is read = absurd (omega (arith, long))

pub ranges_held : (numbers : List ℤ) (first second : RawRange) (old new : Reading) → length numbers ≡ 4
    → first.minimum ≡ slice_index_or numbers 0 (pos 0) → first.extent ≡ slice_index_or numbers 1 (pos 0) → second.minimum ≡ slice_index_or numbers 2 (pos 0) → second.extent ≡ slice_index_or numbers 3 (pos 0)
    → ReadsNumbers old new numbers → (between : Reading) × (range_from old ≡ (Ok (ends_of first), between)) × (range_from between ≡ (Ok (ends_of second), new))
ranges_held [] first second old new long low_is width_is next_is more_is read = absurd (omega (arith, long))
ranges_held (a ∷ []) first second old new long low_is width_is next_is more_is read = absurd (omega (arith, long))
ranges_held (a ∷ b ∷ []) first second old new long low_is width_is next_is more_is read = absurd (omega (arith, long))
ranges_held (a ∷ b ∷ c ∷ []) first second old new long low_is width_is next_is more_is read = absurd (omega (arith, long))
ranges_held (a ∷ b ∷ c ∷ d ∷ []) first second old new long low_is width_is next_is more_is read =
    let (between, one, other) = ranges_read a b c d old new read in
    (between, one ∙ (λ j. (Ok (sym low_is j, sym low_is j +ℤ sym width_is j), between)), other ∙ (λ j. (Ok (sym next_is j, sym next_is j +ℤ sym more_is j), new)))
ranges_held (a ∷ b ∷ c ∷ d ∷ e ∷ zs) first second old new long low_is width_is next_is more_is read = absurd (omega (arith, long))

pub two_ranges_held : (numbers : List ℤ) (first second : RawRange) (old new : Reading) → length numbers ≡ 4
    → first.minimum ≡ slice_index_or numbers 0 (pos 0) → first.extent ≡ slice_index_or numbers 1 (pos 0) → second.minimum ≡ slice_index_or numbers 2 (pos 0) → second.extent ≡ slice_index_or numbers 3 (pos 0)
    → ReadsNumbers old new numbers → two_ranges_from old ≡ (Ok (ends_of first, ends_of second), new)
unfolding two_ranges_from
two_ranges_held numbers first second old new long low_is width_is next_is more_is read =
    let (between, one, other) = ranges_held numbers first second old new long low_is width_is next_is more_is read in
    rw (one, other) refl

module _ (new : Reading) (fault : NumFault) (m : Malformed) (offset : m.offset ≡ new.place) (why : m.why ≡ why_of fault) where
  -- there is a fault where the numbers before it end
  stop : (old : Reading) → StopsAt old new fault → signed_at old ≡ (Err m, new)
  stop old stops = read_no_signed old new fault m stops.0 stops.1 offset why

  -- there is a fault, and no number before it
  first_stops : (old middle : Reading) → ReadsNumbers old middle [] → StopsAt middle new fault → signed_at old ≡ (Err m, new)
  first_stops old middle read stops =
      let long : length (passed old middle) ≡ middle.place - old.place = grind (arith, common_steps, read.moved.within) in
      let place : middle.place ≡ old.place = omega (arith, long, ap length read.spelled, read.moved.ahead) in
      let left : rest middle ≡ rest old = ap₂ (λ (n : ℕ) (bytes : List ℕ). drop n bytes) place read.moved.bytes in
      let back : counted middle (looked_at fault (rest middle)) ≡ counted old (looked_at fault (rest old)) =
      reading_path _ _ read.moved.bytes place (omega (arith, place, read.moved.count, ap (looked_at fault) left)) in
      stop old (subst (λ bytes. Faults fault bytes) left stops.0, stops.1 ∙ back)

  pub range_stops : (old : Reading) → StopsReading 2 old new fault → range_from old ≡ (Err m, new)
  unfolding range_from
  range_stops old s = go s.numbers s.middle s.fewer s.read s.stops
    where
      go : (numbers : List ℤ) (middle : Reading) → length numbers < 2 → ReadsNumbers old middle numbers → StopsAt middle new fault → range_from old ≡ (Err m, new)
      go [] middle fewer read stops = rw (first_stops old middle read stops) refl
      go (low ∷ []) middle fewer read stops = rw (one_read low old middle read, stop middle stops) refl
      go (low ∷ width ∷ zs) middle fewer read stops = absurd (omega (arith, fewer))

  pub two_ranges_stop : (old : Reading) → StopsReading 4 old new fault → two_ranges_from old ≡ (Err m, new)
  unfolding range_from two_ranges_from
  two_ranges_stop old s = go s.numbers s.middle s.fewer s.read s.stops
    where
      go : (numbers : List ℤ) (middle : Reading) → length numbers < 4 → ReadsNumbers old middle numbers → StopsAt middle new fault → two_ranges_from old ≡ (Err m, new)
      go [] middle fewer read stops = rw (first_stops old middle read stops) refl
      go (low ∷ []) middle fewer read stops = rw (one_read low old middle read, stop middle stops) refl
      go (low ∷ width ∷ []) middle fewer read stops =
          let first = first_read low (width ∷ []) old middle read in
          rw (first.1, one_read width first.0 middle first.2, stop middle stops) refl
      go (low ∷ width ∷ next ∷ []) middle fewer read stops =
          let first = first_read low (width ∷ next ∷ []) old middle read in
          let second = first_read width (next ∷ []) first.0 middle first.2 in
          rw (first.1, second.1, one_read next second.0 middle second.2, stop middle stops) refl
      go (low ∷ width ∷ next ∷ more ∷ zs) middle fewer read stops = absurd (omega (arith, fewer))

-- if neither range is malformed, no fault comes before the end of the second
pub ranges_stand : (old new : Reading) (fault : NumFault) → ((m : Malformed) (end : Reading) → range_from old ≢ (Err m, end)) → ((range : RawRange) (between : Reading) → range_from old ≡ (Ok (ends_of range), between) → (m : Malformed) (end : Reading) → range_from between ≢ (Err m, end))
    → StopsReading 4 old new fault → ⊥
unfolding range_from
ranges_stand old new fault first second s = go s.numbers s.middle s.fewer s.read s.stops
  where
    m : Malformed
    m = record { offset = new.place; why = why_of fault }

    early : StopsReading 2 old new fault → ⊥
    early stops = first m new (range_stops new fault m refl refl old stops)

    go : (numbers : List ℤ) (middle : Reading) → length numbers < 4 → ReadsNumbers old middle numbers → StopsAt middle new fault → ⊥
    go [] middle fewer read stops = early (record { numbers = []; middle = middle; fewer = omega arith; read = read; stops = stops })
    go (low ∷ []) middle fewer read stops = early (record { numbers = low ∷ []; middle = middle; fewer = omega arith; read = read; stops = stops })
    go (low ∷ width ∷ zs) middle fewer read stops =
        let one = first_read low (width ∷ zs) old middle read in
        let two = first_read width zs one.0 middle one.2 in
        let range : RawRange = record { minimum = low; extent = width } in
        let whole : range_from old ≡ (Ok (ends_of range), two.0) = rw (one.1, two.1) refl in
        second range two.0 whole m new (range_stops new fault m refl refl two.0 (record { numbers = zs; middle = middle; fewer = omega (arith, fewer); read = two.2; stops = stops }))
