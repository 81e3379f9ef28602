-- Lists of values, one after another, each after its length: what a reader of values does is what a reader of the lists does.
use Rattle.twkb_body.proofs.Prelude.{◌≡◌, ℕ, ◌+◌, ◌<◌, List, flat_map, Ok, Err, Option, Some, None, IfSome, refl, sym, ap, ◌∙◌, arith, Reading, Malformed, Answer, Reader, ◌>>=◌, number_at, many_at, Trail, PointValue, sums, prefixed_at, Stage, on, IsBefore, IsReady, EndsEarly, ReadsOrEnds}
use Rattle.std.specs.Prelude.{Bool}
use Rattle.twkb_body.proofs.Keeping.{number_keeps}
use Rattle.twkb_body.proofs.PointReads.{counted_read, counted_ends, uncounted_ends, next_leads}
use Rattle.twkb_body.proofs.Settling.{next_read}
use Rattle.twkb_body.proofs.Walks.{number_ahead, IsWalkLoop, walk_begins, walk_goes_on, walk_fails, walk_ends}

-- the sums after a list of values
abbrev pub list_after : {A : Type 0} → (List A → List PointValue) → PointValue → List A → PointValue
list_after points_in s xs = sums s (points_in xs)

-- this many lists
abbrev pub lists_of : {A : Type 0} → (PointValue → A → PointValue) → (ℕ → PointValue → Reader A) → (List A → List PointValue) → ℕ → ℕ → PointValue → Reader (List (List A))
lists_of after value points_in count axes = many_at count (list_after points_in) (prefixed_at after (value axes))

-- From a stage, i lists were read, and their points lead to a stage at which the reader is.
pub record HasReadLists {S A : Type 0} (step : S → PointValue → S) (after : PointValue → A → PointValue) (value : ℕ → PointValue → Reader A) (points_in : List A → List PointValue) (count : ℕ) (from : Reading)
    (at : Stage S) (new : Stage S → Type 0) (i : ℕ) (r : Reading) : Type 0 where
  pub trail : Trail
  pub state : S
  pub there : new (on at trail state)
  pub loop : IsWalkLoop step at.axes (list_after points_in) (prefixed_at after (value at.axes)) points_in (λ s xs. refl) count at.trail at.state from i trail state r

-- From whatever stage before all lists, i of them were read.
pub record AreRead {S A : Type 0} (step : S → PointValue → S) (trusts : Bool) (after : PointValue → A → PointValue) (value : ℕ → PointValue → Reader A) (points_in : List A → List PointValue) (count : ℕ) (old : Stage S → Type 0) (from : Reading)
    (new : Stage S → Type 0) (i : ℕ) (r : Reading) : Type 0 where
  pub bytes : r.bytes ≡ from.bytes
  pub read : (at : Stage S) → IsBefore old trusts (lists_of after value points_in count) from at → HasReadLists step after value points_in count from at new i r

module _ {S A : Type 0} {step : S → PointValue → S} {trusts : Bool} {after : PointValue → A → PointValue} {value : ℕ → PointValue → Reader A} {points_in : List A → List PointValue} {count : ℕ} {old : Stage S → Type 0} {from : Reading} where
  pub lists_begin : AreRead step trusts after value points_in count old from old 0 from
  lists_begin = record {
    bytes = refl;
    read = λ at before. record {
      trail = at.trail;
      state = at.state;
      there = before.there;
      loop = walk_begins step at.axes (list_after points_in) (prefixed_at after (value at.axes)) points_in (λ s xs. refl) count at.trail at.state from;
    };
  }

  -- after its length, the values of a list are next
  values_before : {at : Stage S} {new : Stage S → Type 0} {i n : ℕ} {r mid : Reading} → IsBefore old trusts (lists_of after value points_in count) from at → i < count → (h : HasReadLists step after value points_in count from at new i r) → number_at r ≡ (Ok n, mid)
      → IsBefore new trusts (λ axes. many_at n after (value axes)) mid (on at h.trail h.state)
  values_before {at} {new} {i} {n} {r} {mid} before lt h counted =
      let ahead = number_ahead n r mid counted in
      record {
        there = h.there;
        counted = omega (arith, before.counted, ahead, h.loop.walked.points, h.loop.walked.ahead);
        readable = λ t.
            let (lists, stop, e) = before.readable t in
            let list = next_read (list_after points_in) (prefixed_at after (value at.axes)) count (lists_of after value points_in count at.axes at.trail.last from) h.loop.front i h.trail.last r stop lists e lt h.loop.read in
            (list.0, list.1, sym (ap (λ (a : Answer ℕ). a >>= λ n. many_at n after (value at.axes) h.trail.last) counted) ∙ list.2);
      }

  -- after some of the lists
  module _ {new : Stage S → Type 0} {i : ℕ} {r : Reading} (read : AreRead step trusts after value points_in count old from new i r) where
    pub lists_ready : {n : ℕ} {mid : Reading} → i < count → number_at r ≡ (Ok n, mid) → IsReady old trusts (lists_of after value points_in count) from → IsReady new trusts (λ axes. many_at n after (value axes)) mid
    lists_ready lt counted ready =
        let h = read.read ready.0 ready.1 in
        (on ready.0 h.trail h.state, values_before ready.1 lt h counted)

    -- a length was read, and as many values
    pub lists_go_on : {T F : Type 0} {ends : S → Type 0} {tells : F → Option Malformed} {next : Stage S → Type 0} {x : T} {n : ℕ} {mid to : Reading} → i < count → number_at r ≡ (Ok n, mid)
        → ReadsOrEnds (λ axes. many_at n after (value axes)) points_in step trusts ends tells new next (Ok x) mid to → AreRead step trusts after value points_in count old from next (i + 1) to
    lists_go_on {next = next} {n = n} {mid = mid} {to = to} lt counted done = record {
      bytes = done.bytes ∙ number_keeps r counted ∙ read.bytes;
      read = λ at before.
          let h = read.read at before in
          let one = counted_read step (on at h.trail h.state) next after (value at.axes) points_in r mid to n counted (done.read (on at h.trail h.state) (values_before before lt h counted)) in
          record {
            trail = one.trail;
            state = one.state;
            there = one.there;
            loop = walk_goes_on step at.axes (list_after points_in) (prefixed_at after (value at.axes)) points_in (λ s xs. refl) count at.trail at.state from i h.trail one.trail h.state one.state r to one.value lt one.read one.walked h.loop;
          };
    }

    pub lists_end : {T F : Type 0} {ends : S → Type 0} {tells : F → Option Malformed} {x : T} → i ≡ count → ReadsOrEnds (lists_of after value points_in count) (λ lists. flat_map points_in lists) step trusts ends tells old new (Ok x) from r
    lists_end end = record {
      read = λ at before.
          let h = read.read at before in
          let e = walk_ends step at.axes (list_after points_in) (prefixed_at after (value at.axes)) points_in (λ s xs. refl) count at.trail at.state from i h.trail h.state r end h.loop in
          record { value = e.0; read = e.1; trail = h.trail; state = h.state; there = h.there; walked = e.2 };
      ended = tt;
      bytes = read.bytes;
    }

    module _ {ends : S → Type 0} (lasts : (s : S) (p : PointValue) → ends s → ends (step s p)) (lt : i < count) where
      -- if the next list ends early, all do
      list_fails : (told : Option Malformed) (at : Stage S) (h : HasReadLists step after value points_in count from at new i r) (to : Reading) → EndsEarly (prefixed_at after (value at.axes)) points_in step ends told (on at h.trail h.state) r to
          → EndsEarly (lists_of after value points_in count at.axes) (λ lists. flat_map points_in lists) step ends told at from to
      list_fails (Some m) at h to fails = walk_fails step at.axes (list_after points_in) (prefixed_at after (value at.axes)) points_in (λ s xs. refl) count at.trail at.state from i h.trail h.state r to m lt fails h.loop
      list_fails None at h to leads = next_leads step at (list_after points_in) (prefixed_at after (value at.axes)) points_in (λ s xs. refl) count from i h.trail h.state r h.loop ends lasts lt leads

      -- if its values end early, all lists do
      pub values_fail : {T U F : Type 0} {tells : F → Option Malformed} {next last : Stage S → Type 0} {fault : F} {n : ℕ} {mid to : Reading} → number_at r ≡ (Ok n, mid)
          → ReadsOrEnds {T = T} (λ axes. many_at n after (value axes)) points_in step trusts ends tells new next (Err fault) mid to
          → ReadsOrEnds {T = U} (lists_of after value points_in count) (λ lists. flat_map points_in lists) step trusts ends tells old last (Err fault) from to
      values_fail {tells = tells} {fault = fault} {n = n} {mid = mid} {to = to} counted done = record {
        read = tt;
        ended = λ at before.
            let h = read.read at before in
            list_fails (tells fault) at h to (counted_ends step (on at h.trail h.state) ends (tells fault) after (value at.axes) points_in r mid to n counted (done.ended (on at h.trail h.state) (values_before before lt h counted)));
        bytes = done.bytes ∙ number_keeps r counted ∙ read.bytes;
      }

      -- if its length is malformed, all lists end early
      pub length_fails : {U F : Type 0} {tells : F → Option Malformed} {last : Stage S → Type 0} {fault : F} {m : Malformed} {mid : Reading} → number_at r ≡ (Err m, mid) → IfSome (tells fault) (λ t. t ≡ m)
          → ReadsOrEnds {T = U} (lists_of after value points_in count) (λ lists. flat_map points_in lists) step trusts ends tells old last (Err fault) from mid
      length_fails {tells = tells} {fault = fault} {m = m} {mid = mid} failed told = record {
        read = tt;
        ended = λ at before.
            let h = read.read at before in
            list_fails (tells fault) at h mid (uncounted_ends step (on at h.trail h.state) ends (tells fault) after (value at.axes) points_in r mid m failed told);
        bytes = number_keeps r failed ∙ read.bytes;
      }
