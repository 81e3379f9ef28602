-- The loop over the blobs of a layer, whatever is done at each.
use Rattle.twkb_layer.proofs.Prelude.{◌≡◌, ℕ, suc, ◌+◌, ◌-◌, ◌^◌, ◌<◌, ◌≤◌, ◌⊎◌, inl, inr, nat_lt, ◌&&◌, Bool, true, false, List, [], ◌∷◌, ◌++◌, length, take, drop, Option, Some, None, refl, ap, subst, sym, ◌∙◌, arith, length-drop, length-append, append_assoc, nat_tests, drop-drop, append-nil, drop_all, take-append-drop, All-head, All-tail, take-nil, added, Geometry, IsCertified, StandsAt, IsLayer, IsCertifiedLayer, size_of, told_from, is_among, first_blobs, after_from, after_blobs, read_from, bytes_read, adds, Lent, lent}
use Rattle.std.specs.Borrow.{GName}
use Rattle.twkb_layer.proofs.Layers.{blob_some, size_of-blob, layer_once, layer_short}

-- ---- the next blob

-- the blob that begins at a place of a certified layer, before its end
pub record Next (rest : List Geometry) (bytes : List ℕ) (place : ℕ) : Type 0 where
  pub tree : Geometry
  pub after : List Geometry
  pub is : rest ≡ tree ∷ after
  pub stands : StandsAt tree 1 bytes place
  pub ahead : 0 < size_of tree
  pub within : place + size_of tree ≤ length bytes
  pub goes_on : IsCertifiedLayer after (drop (place + size_of tree) bytes)

pub next_of : (rest : List Geometry) (bytes : List ℕ) (place : ℕ) → IsCertifiedLayer rest (drop place bytes) → place < length bytes → Next rest bytes place
next_of [] bytes place h lt = let e = ap length h.layer in absurd (omega (arith, e, lt, length-drop place bytes))
next_of (tree ∷ trees) bytes place h lt =
    let left = drop place bytes in
    let front = take (size_of tree) left in
    let long = size_of-blob tree front h.layer.0 in
    let all : length left ≡ length front + length (drop (size_of tree) left) = ap length (sym (take-append-drop (size_of tree) left)) ∙ length-append front (drop (size_of tree) left) in
    record {
      tree = tree;
      after = trees;
      is = refl;
      stands = record { front = front; behind = drop (size_of tree) left; there = sym (take-append-drop (size_of tree) left); blob = h.layer.0; start = 0; certified = All-head IsCertified tree trees h.certified };
      ahead = omega (arith, long, blob_some tree front h.layer.0);
      within = omega (arith, long, all, length-drop place bytes, lt);
      goes_on = record { layer = subst (IsLayer trees) (drop-drop (size_of tree) place bytes) h.layer.1; certified = All-tail IsCertified tree trees h.certified };
    }

-- nothing is left at the end
none_left : (rest : List Geometry) (bytes : List ℕ) (place : ℕ) → IsCertifiedLayer rest (drop place bytes) → length bytes ≤ place → rest ≡ []
none_left [] bytes place h le = refl
none_left (tree ∷ trees) bytes place h le =
    let some = blob_some tree (take (size_of tree) (drop place bytes)) h.layer.0 in
    let nothing : take (size_of tree) (drop place bytes) ≡ [] = ap (take (size_of tree)) (drop_all place bytes le) ∙ take-nil (size_of tree) in
    absurd (omega (arith, some, ap length nothing))

-- ---- the blobs still to come

-- of the blobs from this number on, the ones that are taken
abbrev pub to_come : Option ℕ → ℕ → List Geometry → List Geometry
to_come None blob rest = rest
to_come (Some limit) blob rest = take (limit - blob) rest

come_all : (limit : Option ℕ) (trees : List Geometry) → to_come limit 0 trees ≡ first_blobs limit trees
come_all None trees = refl
come_all (Some limit) trees = let same : limit - 0 ≡ limit = omega arith in ap (λ (n : ℕ). take n trees) same

come_next : (limit : Option ℕ) (blob : ℕ) (t : Geometry) (ts : List Geometry) → is_among limit blob ≡ true → to_come limit blob (t ∷ ts) ≡ t ∷ to_come limit (blob + 1) ts
come_next None blob t ts e = refl
come_next (Some limit) blob t ts e =
    let lt : blob < limit = grind (arith, nat_tests) in
    let more : limit - blob ≡ suc (limit - (blob + 1)) = omega (arith, lt) in
    ap (λ (n : ℕ). take n (t ∷ ts)) more

come_none : (limit : Option ℕ) (blob : ℕ) (rest : List Geometry) → (rest ≡ []) ⊎ (is_among limit blob ≡ false) → to_come limit blob rest ≡ []
come_none limit blob rest (inl none) = rw none (go limit)
  where
    go : (l : Option ℕ) → to_come l blob [] ≡ []
    go None = refl
    go (Some n) = take-nil (n - blob)
come_none None blob rest (inr e) = absurd (cc (e))
come_none (Some limit) blob rest (inr e) =
    let le : limit ≤ blob = grind (arith, nat_tests) in
    let none : limit - blob ≡ 0 = omega (arith, le) in
    ap (λ (n : ℕ). take n rest) none

-- the blob of a turn of the loop, among the bytes of the cursor, if the loop goes on
pub record Turn (rest : List Geometry) (bytes now : List ℕ) (place : ℕ) (among : Bool) : Type 0 where
  pub next : Next rest bytes place
  pub stands : StandsAt next.tree 1 now place
  pub is_taken : among ≡ true

pub turn_of : (rest : List Geometry) (bytes now : List ℕ) (place : ℕ) (among goes : Bool) → IsCertifiedLayer rest (drop place bytes) → now ≡ bytes → goes ≡ (nat_lt place (length now) && among) → goes ≡ true → Turn rest bytes now place among
turn_of rest bytes now place among goes left same is on =
    let both = go among (sym is ∙ on) in
    let next = next_of rest bytes place left (omega (arith, both.0, ap length same)) in
    record { next = next; stands = subst (λ (bs : List ℕ). StandsAt next.tree 1 bs place) (sym same) next.stands; is_taken = both.1 }
  where
    go : (b : Bool) → (nat_lt place (length now) && b) ≡ true → (place < length now) × (b ≡ true)
    go true e = (grind (arith, nat_tests), refl)
    go false e = grind (arith, nat_tests)

-- at the end of the bytes, or at the limit, the loop ends
pub no_turn : (bytes now : List ℕ) (place : ℕ) (among goes : Bool) → now ≡ bytes → goes ≡ (nat_lt place (length now) && among) → goes ≡ false → (length bytes ≤ place) ⊎ (among ≡ false)
no_turn bytes now place true goes same is off = inl (let e = ap length same in grind (arith, nat_tests))
no_turn bytes now place false goes same is off = inr refl

-- ---- the loop
-- the state and the bytes read so far are those of the blobs before the place, and the rest is a certified layer
module _ {S : Type 0} (step : S → ℕ → ℕ → Geometry → S) (reads : S → Geometry → ℕ) (limit : Option ℕ) where
  pub record Walking (bytes : List ℕ) (count0 : ℕ) (state0 : S) (rest : List Geometry) (blob place count : ℕ) (state : S) (fits : ℕ → ℕ → Type 0) : Type 0 where
    pub trees : List Geometry
    pub whole : IsCertifiedLayer trees bytes
    pub left : IsCertifiedLayer rest (drop place bytes)
    pub state_is : after_from step blob place (to_come limit blob rest) state ≡ after_blobs step (first_blobs limit trees) state0
    pub read : ℕ
    pub count_is : count ≡ added count0 read
    pub read_is : read + read_from step reads blob place (to_come limit blob rest) state ≡ bytes_read step reads (first_blobs limit trees) state0
    pub read_few : read ≤ place
    pub blob_is : blob + length rest ≡ length trees
    pub room : fits blob (length (to_come limit blob rest))
    pub within : place ≤ length bytes

  pub walk_begins : (bytes : List ℕ) (count0 : ℕ) (state0 : S) (fits : ℕ → ℕ → Type 0) (trees : List Geometry) → IsCertifiedLayer trees bytes → fits 0 (length (first_blobs limit trees)) → count0 < 2 ^ 64 → Walking bytes count0 state0 trees 0 0 count0 state0 fits
  walk_begins bytes count0 state0 fits trees whole room small =
      let all = come_all limit trees in
      record {
        trees = trees;
        whole = whole;
        left = whole;
        state_is = ap (λ ts. after_blobs step ts state0) all;
        read = 0;
        count_is = omega (arith, small);
        read_is = (let zero_plus : 0 + bytes_read step reads (to_come limit 0 trees) state0 ≡ bytes_read step reads (to_come limit 0 trees) state0 = omega arith in zero_plus ∙ ap (λ ts. bytes_read step reads ts state0) all);
        read_few = omega arith;
        blob_is = omega arith;
        room = rw all room;
        within = omega arith;
      }

  module _ (bytes : List ℕ) (count0 : ℕ) (state0 : S) (rest : List Geometry) (blob place count : ℕ) (state : S) (fits : ℕ → ℕ → Type 0) (w : Walking bytes count0 state0 rest blob place count state fits) where
    -- a blob is taken
    pub walk_goes_on : (n : Next rest bytes place) → is_among limit blob ≡ true → reads state n.tree ≤ size_of n.tree → (new : S) → new ≡ step state blob place n.tree → (fit : ℕ → ℕ → Type 0) → ((more : ℕ) → fits blob (more + 1) → fit (blob + 1) more)
        → Walking bytes count0 state0 n.after (blob + 1) (place + size_of n.tree) (added count (reads state n.tree)) new fit
    walk_goes_on n among few new is fit fits_on =
        let next : to_come limit blob rest ≡ n.tree ∷ to_come limit (blob + 1) n.after = ap (to_come limit blob) n.is ∙ come_next limit blob n.tree n.after among in
        let others = to_come limit (blob + 1) n.after in
        let behind = place + size_of n.tree in
        record {
          trees = w.trees;
          whole = w.whole;
          left = n.goes_on;
          state_is = ap (after_from step (blob + 1) behind others) is ∙ (ap (λ ts. after_from step blob place ts state) (sym next) ∙ w.state_is);
          read = w.read + reads state n.tree;
          count_is = omega (arith, w.count_is);
          read_is = ap (λ s. (w.read + reads state n.tree) + read_from step reads (blob + 1) behind others s) is ∙ (omega arith ∙ (ap (λ ts. w.read + read_from step reads blob place ts state) (sym next) ∙ w.read_is));
          read_few = omega (arith, w.read_few, few);
          blob_is = omega (arith, w.blob_is, ap length n.is);
          room = fits_on (length others) (subst (fits blob) (ap length next ∙ omega arith) w.room);
          within = n.within;
        }

    -- there is room for one more blob
    pub walk_fits : Next rest bytes place → is_among limit blob ≡ true → (more : ℕ) × fits blob (more + 1)
    walk_fits n among =
        let next : to_come limit blob rest ≡ n.tree ∷ to_come limit (blob + 1) n.after = ap (to_come limit blob) n.is ∙ come_next limit blob n.tree n.after among in
        (length (to_come limit (blob + 1) n.after), subst (fits blob) (ap length next ∙ omega arith) w.room)

    -- the number of a blob is less than the number of bytes
    pub blob_few : Next rest bytes place → blob < length bytes
    blob_few n = omega (arith, w.blob_is, ap length n.is, layer_short w.trees bytes w.whole.layer)

    -- at the end of the bytes, or at the limit, no blob is to come
    pub walk_done : (length bytes ≤ place) ⊎ (is_among limit blob ≡ false) → to_come limit blob rest ≡ []
    walk_done (inl le) = come_none limit blob rest (inl (none_left rest bytes place w.left le))
    walk_done (inr e) = come_none limit blob rest (inr e)

    -- then the state and the bytes read are those of the layer
    pub walk_ends : to_come limit blob rest ≡ [] → (trees : List Geometry) → IsCertifiedLayer trees bytes
        → (state ≡ after_blobs step (first_blobs limit trees) state0) × (count ≡ added count0 (bytes_read step reads (first_blobs limit trees) state0))
    walk_ends none trees h =
        let same : w.trees ≡ trees = layer_once w.trees trees bytes w.whole.layer h.layer in
        let all : w.read ≡ bytes_read step reads (first_blobs limit w.trees) state0 = omega arith ∙ (ap (λ ts. w.read + read_from step reads blob place ts state) (sym none) ∙ w.read_is) in (
          ap (λ ts. after_from step blob place ts state) (sym none) ∙ (w.state_is ∙ ap (λ ts. after_blobs step (first_blobs limit ts) state0) same),
          w.count_is ∙ ap (added count0) (all ∙ ap (λ ts. bytes_read step reads (first_blobs limit ts) state0) same),
        )

-- ---- steps

-- all values are kept
pub all_added : {A : Type 0} (of : ℕ → ℕ → Geometry → A) (kept : List A) (blob offset : ℕ) (trees : List Geometry) → after_from (adds of) blob offset trees kept ≡ kept ++ told_from of blob offset trees
all_added of kept blob offset [] = sym (append-nil kept)
all_added of kept blob offset (t ∷ ts) = all_added of (kept ++ of blob offset t ∷ []) (blob + 1) (offset + size_of t) ts ∙ append_assoc kept (of blob offset t ∷ []) (told_from of (blob + 1) (offset + size_of t) ts)

module _ {S : Type 0} (step : S → ℕ → ℕ → Geometry → S) where
  -- the state behind a reference changes by the step, and the reference stays
  lent_after : (blob offset : ℕ) (trees : List Geometry) (s : Lent S) → after_from (lent step) blob offset trees s ≡ record { name = s.name; state = after_from step blob offset trees s.state }
  lent_after blob offset [] s = refl
  lent_after blob offset (t ∷ ts) s = lent_after (blob + 1) (offset + size_of t) ts (lent step s blob offset t)

  lent_reads : (reads : S → Geometry → ℕ) (blob offset : ℕ) (trees : List Geometry) (s : Lent S) → read_from (lent step) (λ l g. reads l.state g) blob offset trees s ≡ read_from step reads blob offset trees s.state
  lent_reads reads blob offset [] s = refl
  lent_reads reads blob offset (t ∷ ts) s = ap (λ (n : ℕ). reads s.state t + n) (lent_reads reads (blob + 1) (offset + size_of t) ts (lent step s blob offset t))

  -- the state at the end is behind the reference that was lent
  pub lent_ends : (trees : List Geometry) (name last : GName) (state0 state : S) → record { name = last; state = state } ≡ after_blobs (lent step) trees (record { name = name; state = state0 })
      → (state ≡ after_blobs step trees state0) × (name ≡ last)
  lent_ends trees name last state0 state is =
      let all = is ∙ lent_after 0 0 trees (record { name = name; state = state0 }) in
      (ap (λ (l : Lent S). l.state) all, sym (ap (λ (l : Lent S). l.name) all))

  pub lent_read : (reads : S → Geometry → ℕ) (trees : List Geometry) (name : GName) (state0 : S) → bytes_read (lent step) (λ l g. reads l.state g) trees (record { name = name; state = state0 }) ≡ bytes_read step reads trees state0
  lent_read reads trees name state0 = lent_reads reads 0 0 trees (record { name = name; state = state0 })

pub lent_is : {S : Type 0} (name : GName) (a b : S) → a ≡ b → ◌≡◌ {A = Lent S} (record { name = name; state = a }) (record { name = name; state = b })
lent_is name a b is = λ j. record { name = name; state = is j }
