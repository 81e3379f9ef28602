-- A field at the front of bytes: cutting it off, and what it means that it cannot be cut off.
use Rattle.twkb_head.proofs.Prelude.{◌≡◌, ℕ, zero, suc, ◌*◌, ◌<◌, ◌≤◌, Bool, true, false, cond, nat_lt, List, [], ◌∷◌, ◌++◌, length, take, slice_index, All, Result, Ok, Err, ◌⊎◌, inl, inr, ⊎_elim, refl, sym, ap, subst, ◌∙◌, arith, ltb-true, ltb-false, lt-ltb, le-ltb, get_or-take, common_steps, Why, Cut, Varint, Spells, IsCut, IsLong, Field, type_field, byte_field, number_field, coordinate_field, IsField, cut_varint, cut_byte, cut_field, push_byte}
use Rattle.std.proofs.lemmas.List.Elements.{All-cons, All-nil, All-head, All-tail}
use Rattle.twkb_num.proofs.SpellingForms.{varint_value, IsVarintForm, Spells-form, Spells-value, form_spells}

pub ok_is : {A E : Type 0} (x y : A) → let z : Result A E = Ok x in z ≡ Ok y → x ≡ y
ok_is x y e = cc

pub err_is : {A E : Type 0} (x y : E) → let z : Result A E = Err x in z ≡ Err y → x ≡ y
err_is x y e = cc

-- a field and the bytes after it, or why none can be cut off
abbrev pub Pieces : Type 0
Pieces = Result (List ℕ × List ℕ) Why

-- the bound of the numbers that a varint of at most room + 1 bytes may spell
limit : ℕ → ℕ
limit zero = 2
limit (suc room) = 128 * limit room

-- one varint of at most room + 1 bytes
record IsVarintWithin (room : ℕ) (bytes : List ℕ) : Type 0 where
  form : IsVarintForm bytes
  short : length bytes ≤ suc room
  fits : varint_value bytes < limit room

varint_again : (room : ℕ) (front rest : List ℕ) → IsVarintWithin room front → cut_varint room (front ++ rest) ≡ Ok (front, rest)
unfolding limit
varint_again zero [] rest s = absurd s.form
varint_again (suc room) [] rest s = absurd s.form
varint_again zero (b ∷ []) rest s =
    let e : nat_lt b 2 ≡ true = lt-ltb b 2 (omega (arith, s.form, s.fits)) in
    rw e refl
varint_again (suc room) (b ∷ []) rest s =
    let e : nat_lt b 128 ≡ true = lt-ltb b 128 s.form in
    rw e refl
varint_again zero (b ∷ c ∷ bs) rest s = absurd (omega (arith, s.short))
varint_again (suc room) (b ∷ c ∷ bs) rest s =
    let e : nat_lt b 128 ≡ false = le-ltb b 128 s.form.0 in
    let again : cut_varint room (c ∷ bs ++ rest) ≡ Ok (c ∷ bs, rest) = varint_again room (c ∷ bs) rest
    (record { form = s.form.1; short = omega (arith, s.short); fits = omega (arith, s.fits) }) in
    rw e (rw again refl)

-- the bytes are a front of which P holds, and the rest
record IsSplit (P : List ℕ → Type 0) (bytes front rest : List ℕ) : Type 0 where
  parts : bytes ≡ front ++ rest
  is : P front

IsVarintWithin-more : (room b : ℕ) (front : List ℕ) → 128 ≤ b → IsVarintWithin room front → IsVarintWithin (suc room) (b ∷ front)
unfolding limit
IsVarintWithin-more room b [] big s = absurd s.form
IsVarintWithin-more room b (c ∷ bs) big s = record { form = (big, s.form); short = omega (arith, s.short); fits = omega (arith, s.fits) }

Cuts : ℕ → List ℕ → Type 0
Cuts room bytes = (x : List ℕ × List ℕ) → cut_varint room bytes ≡ Ok x → IsSplit (IsVarintWithin room) bytes x.0 x.1

one_short : (room b : ℕ) → b < 128 → b < limit room → IsVarintWithin room (b ∷ [])
one_short room b small fits = record { form = small; short = omega arith; fits = omega arith }

limit-big : (room : ℕ) → 128 ≤ limit (suc room)
unfolding limit
limit-big zero = omega arith
limit-big (suc room) = omega (arith, limit-big room)

varint_takes : (room : ℕ) (bytes : List ℕ) → Cuts room bytes
unfolding Cuts limit
varint_takes zero [] x e = absurd (cc)
varint_takes (suc room) [] x e = absurd (cc)
varint_takes zero (b ∷ bs) x e = go (nat_lt b 2) refl e
  where
    go : (t : Bool) → nat_lt b 2 ≡ t → cond {A = Pieces} t (Ok (b ∷ [], bs)) (Err Varint) ≡ Ok x → IsSplit (IsVarintWithin zero) (b ∷ bs) x.0 x.1
    go true small e =
        let fits : b < 2 = ltb-true b 2 small in
        subst (λ (y : List ℕ × List ℕ). IsSplit (IsVarintWithin zero) (b ∷ bs) y.0 y.1) (ok_is _ _ e)
        (record { parts = refl; is = one_short zero b (omega arith) (omega arith) })
    go false big e = absurd (cc)
varint_takes (suc room) (b ∷ bs) x e = go (nat_lt b 128) refl (cut_varint room bs) (varint_takes room bs) e
  where
    go : (t : Bool) → nat_lt b 128 ≡ t → (r : Pieces) → ((x : List ℕ × List ℕ) → r ≡ Ok x → IsSplit (IsVarintWithin room) bs x.0 x.1)
        → cond {A = Pieces} t (Ok (b ∷ [], bs)) (push_byte b r) ≡ Ok x → IsSplit (IsVarintWithin (suc room)) (b ∷ bs) x.0 x.1
    go true small r ih e =
        let fits : b < 128 = ltb-true b 128 small in
        subst (λ (y : List ℕ × List ℕ). IsSplit (IsVarintWithin (suc room)) (b ∷ bs) y.0 y.1) (ok_is _ _ e)
        (record { parts = refl; is = one_short (suc room) b fits (omega (arith, limit-big room)) })
    go false big (Ok y) ih e =
        let first = ih y refl in
        subst (λ (y : List ℕ × List ℕ). IsSplit (IsVarintWithin (suc room)) (b ∷ bs) y.0 y.1) (ok_is _ _ e)
        (record { parts = ap (λ (zs : List ℕ). b ∷ zs) first.parts; is = IsVarintWithin-more room b y.0 (ltb-false b 128 big) first.is })
    go false big (Err w) ih e = absurd (cc)

-- why no varint can be cut off
IsUncut : ℕ → List ℕ → Why → Type 0
IsUncut room bytes why = ((why ≡ Cut) × (length bytes ≤ room) × All (λ b. 128 ≤ b) bytes)
    ⊎ ((why ≡ Varint) × (room < length bytes) × All (λ b. 128 ≤ b) (take room bytes) × (1 < slice_index bytes room))

varint_fails : (room : ℕ) (bytes : List ℕ) (why : Why) → cut_varint room bytes ≡ Err why → IsUncut room bytes why
unfolding IsUncut
varint_fails zero [] why e = inl (sym (err_is _ _ e), omega arith, All-nil (λ b. 128 ≤ b))
varint_fails (suc room) [] why e = inl (sym (err_is _ _ e), omega arith, All-nil (λ b. 128 ≤ b))
varint_fails zero (b ∷ bs) why e = go (nat_lt b 2) refl e
  where
    go : (t : Bool) → nat_lt b 2 ≡ t → cond {A = Pieces} t (Ok (b ∷ [], bs)) (Err Varint) ≡ Err why → IsUncut zero (b ∷ bs) why
    go true small e = absurd (cc)
    go false big e = inr (sym (err_is _ _ e), omega arith, All-nil (λ b. 128 ≤ b), ltb-false b 2 big)
varint_fails (suc room) (b ∷ bs) why e = go (nat_lt b 128) refl (cut_varint room bs) (varint_fails room bs) e
  where
    go : (t : Bool) → nat_lt b 128 ≡ t → (r : Pieces) → ((why : Why) → r ≡ Err why → IsUncut room bs why)
        → cond {A = Pieces} t (Ok (b ∷ [], bs)) (push_byte b r) ≡ Err why → IsUncut (suc room) (b ∷ bs) why
    go true small r ih e = absurd (cc)
    go false big (Ok y) ih e = absurd (cc)
    go false big (Err w) ih e = ⊎_elim
        (λ (c : (why ≡ Cut) × (length bs ≤ room) × All (λ b. 128 ≤ b) bs).
        inl (c.0, omega (arith, c.1), All-cons (λ b. 128 ≤ b) b bs (ltb-false b 128 big) c.2))
        (λ (c : (why ≡ Varint) × (room < length bs) × All (λ b. 128 ≤ b) (take room bs) × (1 < slice_index bs room)).
        inr (c.0, omega (arith, c.1), All-cons (λ b. 128 ≤ b) b (take room bs) (ltb-false b 128 big) c.2, c.3))
        (ih why e)

Spells-short : (front : List ℕ) → IsVarintWithin 9 front → Spells front (varint_value front)
unfolding limit
Spells-short front s = form_spells front (varint_value front) s.form (omega (arith, s.short)) refl (omega (arith, s.fits))

short_spells : (front : List ℕ) (n : ℕ) → Spells front n → IsVarintWithin 9 front
unfolding limit
short_spells front n s = record { form = Spells-form front n s; short = s.few; fits = omega (arith, Spells-value front n s, s.fits) }

pub varint_again_9 : (front rest : List ℕ) (n : ℕ) → Spells front n → cut_varint 9 (front ++ rest) ≡ Ok (front, rest)
varint_again_9 front rest n s = varint_again 9 front rest (short_spells front n s)

byte_again : (front rest : List ℕ) → (b : ℕ) × (front ≡ b ∷ []) → cut_byte (front ++ rest) ≡ Ok (front, rest)
byte_again [] rest h = absurd (cc (h.1))
byte_again (b ∷ []) rest h = refl
byte_again (b ∷ c ∷ bs) rest h = absurd (cc (h.1))

pub field_again : (f : Field) (front rest : List ℕ) → IsField f front → cut_field f (front ++ rest) ≡ Ok (front, rest)
field_again type_field front rest h = byte_again front rest h
field_again byte_field front rest h = byte_again front rest h
field_again number_field front rest h = varint_again_9 front rest h.0 h.1
field_again coordinate_field front rest h = varint_again_9 front rest h.0 h.1

IsSplit-field : (P Q : List ℕ → Type 0) → ((front : List ℕ) → P front → Q front) → (bytes front rest : List ℕ) → IsSplit P bytes front rest → IsSplit Q bytes front rest
IsSplit-field P Q h bytes front rest c = record { parts = c.parts; is = h front c.is }

byte_takes : (bytes : List ℕ) (x : List ℕ × List ℕ) → cut_byte bytes ≡ Ok x → IsSplit (λ front. (b : ℕ) × (front ≡ b ∷ [])) bytes x.0 x.1
byte_takes [] x e = absurd (cc)
byte_takes (b ∷ bs) x e = subst (λ (y : List ℕ × List ℕ). IsSplit (λ front. (b : ℕ) × (front ≡ b ∷ [])) (b ∷ bs) y.0 y.1) (ok_is _ _ e)
    (record { parts = refl; is = (b, refl) })

number_takes : (bytes : List ℕ) (x : List ℕ × List ℕ) → cut_varint 9 bytes ≡ Ok x → IsSplit (λ front. (n : ℕ) × Spells front n) bytes x.0 x.1
unfolding Cuts
number_takes bytes x e = IsSplit-field (IsVarintWithin 9) (λ front. (n : ℕ) × Spells front n) (λ front s. (varint_value front, Spells-short front s)) bytes x.0 x.1 (varint_takes 9 bytes x e)

field_cut : (f : Field) (bytes : List ℕ) (x : List ℕ × List ℕ) → cut_field f bytes ≡ Ok x → IsSplit (IsField f) bytes x.0 x.1
field_cut type_field bytes x e = byte_takes bytes x e
field_cut byte_field bytes x e = byte_takes bytes x e
field_cut number_field bytes x e = number_takes bytes x e
field_cut coordinate_field bytes x e = number_takes bytes x e

pub field_takes : (f : Field) (bytes : List ℕ) (x : List ℕ × List ℕ) → cut_field f bytes ≡ Ok x → (bytes ≡ x.0 ++ x.1) × IsField f x.0
field_takes f bytes x e = let c = field_cut f bytes x e in (c.parts, c.is)

-- bytes begin with at most one field of a kind
pub field_once : (f : Field) (a b x y : List ℕ) → IsField f a → IsField f b → a ++ x ≡ b ++ y → (a ≡ b) × (x ≡ y)
field_once f a b x y h k e =
    let both : (a, x) ≡ (b, y) = ok_is {A = List ℕ × List ℕ} {E = Why} (a, x) (b, y) (sym (field_again f a x h) ∙ ap (cut_field f) e ∙ field_again f b y k) in
    (ap (λ (z : List ℕ × List ℕ). z.0) both, ap (λ (z : List ℕ × List ℕ). z.1) both)

pub field_cuts : (f : Field) → cut_field f [] ≡ Err Cut
field_cuts type_field = refl
field_cuts byte_field = refl
field_cuts number_field = refl
field_cuts coordinate_field = refl

pub field_some : (f : Field) → IsField f [] → ⊥
field_some type_field h = cc (h.1)
field_some byte_field h = cc (h.1)
field_some number_field h = omega (arith, h.1.some)
field_some coordinate_field h = omega (arith, h.1.some)

pub byte_fails : (bytes : List ℕ) (why : Why) → cut_byte bytes ≡ Err why → (why ≡ Cut) × (bytes ≡ [])
byte_fails [] why e = (sym (err_is _ _ e), refl)
byte_fails (b ∷ bs) why e = absurd (cc)

each_all : (bs : List ℕ) → ((k : ℕ) → k < length bs → 128 ≤ slice_index bs k) → All (λ b. 128 ≤ b) bs
each_all [] h = All-nil (λ b. 128 ≤ b)
each_all (b ∷ bs) h = All-cons (λ b. 128 ≤ b) b bs (h 0 (omega arith)) (each_all bs (λ k lt. h (suc k) (omega (arith, lt))))

all_each : (bs : List ℕ) → All (λ b. 128 ≤ b) bs → (k : ℕ) → k < length bs → 128 ≤ slice_index bs k
all_each [] h k lt = absurd (omega (arith, lt))
all_each (b ∷ bs) h zero lt = All-head (λ b. 128 ≤ b) b bs h
all_each (b ∷ bs) h (suc k) lt = all_each bs (All-tail (λ b. 128 ≤ b) b bs h) k (omega (arith, lt))

-- bytes that all go on, at most `room` of them, are cut
varint_cuts : (room : ℕ) (f : List ℕ) → length f ≤ room → All (λ b. 128 ≤ b) f → cut_varint room f ≡ Err Cut
varint_cuts zero [] short all = refl
varint_cuts (suc room) [] short all = refl
varint_cuts zero (b ∷ f) short all = absurd (omega (arith, short))
varint_cuts (suc room) (b ∷ f) short all =
    let big : nat_lt b 128 ≡ false = le-ltb b 128 (All-head (λ b. 128 ≤ b) b f all) in
    let more : cut_varint room f ≡ Err Cut = varint_cuts room f (omega (arith, short)) (All-tail (λ b. 128 ≤ b) b f all) in
    rw big (rw more refl)

varint_long : (room : ℕ) (f : List ℕ) → room < length f → All (λ b. 128 ≤ b) (take room f) → 1 < slice_index f room → cut_varint room f ≡ Err Varint
varint_long zero [] long all last = absurd (omega (arith, long))
varint_long (suc room) [] long all last = absurd (omega (arith, long))
varint_long zero (b ∷ f) long all last = let big : nat_lt b 2 ≡ false = le-ltb b 2 last in rw big refl
varint_long (suc room) (b ∷ f) long all last =
    let big : nat_lt b 128 ≡ false = le-ltb b 128 (All-head (λ b. 128 ≤ b) b (take room f) all) in
    let more : cut_varint room f ≡ Err Varint = varint_long room f (omega (arith, long)) (All-tail (λ b. 128 ≤ b) b (take room f) all) last in
    rw big (rw more refl)

pub cut_off : (f : List ℕ) → IsCut f → cut_varint 9 f ≡ Err Cut
cut_off f h = varint_cuts 9 f (omega (arith, h.few)) (each_all f h.goes_on)

pub too_long : (f : List ℕ) → IsLong f → cut_varint 9 f ≡ Err Varint
too_long f h = varint_long 9 f (omega (arith, h.ten))
    (each_all (take 9 f) (λ k lt.
    let l : length (take 9 f) ≡ 9 = grind (arith, common_steps, h.ten) in
    let e = get_or-take 9 f k 0 (omega arith) in
    omega (arith, h.goes_on k (omega arith))))
    h.top

pub number_fails : (f : List ℕ) (why : Why) → cut_varint 9 f ≡ Err why → ((why ≡ Cut) × IsCut f) ⊎ ((why ≡ Varint) × IsLong f)
unfolding IsUncut
number_fails f why e = ⊎_elim
    (λ (c : (why ≡ Cut) × (length f ≤ 9) × All (λ b. 128 ≤ b) f). inl (c.0, record { few = omega (arith, c.1); goes_on = all_each f c.2 }))
    (λ (c : (why ≡ Varint) × (9 < length f) × All (λ b. 128 ≤ b) (take 9 f) × (1 < slice_index f 9)). inr (
      c.0,
      record {
        ten = omega (arith, c.1);
        goes_on = λ k lt.
            let l : length (take 9 f) ≡ 9 = grind (arith, common_steps, c.1) in
            let e = get_or-take 9 f k 0 (omega arith) in
            omega (arith, all_each (take 9 f) c.2 k (omega arith));
        top = c.3;
      },
    ))
    (varint_fails 9 f why e)
