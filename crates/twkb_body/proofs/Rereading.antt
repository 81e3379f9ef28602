-- Reading from the same place of the same bytes again comes to the same end, whatever was counted before.
use Rattle.twkb_body.proofs.Prelude.{◌≡◌, ℕ, ◌-◌, List, length, drop, Result, Ok, Err, refl, sym, ap, subst, ◌∙◌, arith, common_steps, Reading, rest, IsSound, Kind, Malformed, Why, IsRefusedHead, Plan, many, Answer, Reader, Fails, err_is, IsFailedAt, read_ok, read_err, Fault, fault, run, PointValue, ring_sums, part_at, many_parts_at, IsUnreadable}
use Rattle.twkb_body.proofs.BodyRuns.{Runs, runs_many, part_runs}
use Rattle.twkb_body.proofs.GeometryPlan.{part_plan}

abbrev why_in : Fault → Why
why_in (fault w d g) = w

abbrev rest_in : Fault → List ℕ
rest_in (fault w d g) = g

-- no result is both a value and a fault
not_both : {A : Type 0} (x : A) (f : Fault) (q : Result A Fault) → q ≡ Ok x → q ≡ Err f → ⊥
not_both x f q a b = cc (a, b)

-- the bytes from the place on are the same
pub same_rest : (r s : Reading) → s.bytes ≡ r.bytes → s.place ≡ r.place → rest s ≡ rest r
same_rest r s bytes place = λ j. drop (place j) (bytes j)

-- a header that is refused from one is refused from the other
pub refused_again : (m : Malformed) (depth : ℕ) (r s : Reading) → s.bytes ≡ r.bytes → s.place ≡ r.place → IsRefusedHead m depth s.place (rest s) → IsRefusedHead m depth r.place (rest r)
refused_again m depth r s bytes place refused =
    subst (λ (z : List ℕ). IsRefusedHead m depth r.place z) (same_rest r s bytes place) (subst (λ (p : ℕ). IsRefusedHead m depth p (rest s)) place refused)

module _ {A : Type 0} (p : Plan A) (f : Reader A) (runs : Runs p f) (r s : Reading) (sound : IsSound r) (again : IsSound s) (bytes : s.bytes ≡ r.bytes) (place : s.place ≡ r.place) where
  same_run : run p (rest s) ≡ run p (rest r)
  same_run = ap (run p) (same_rest r s bytes place)

  -- what can't be read from one can't be read from the other
  pub unreadable_again : IsUnreadable (f r) → IsUnreadable (f s)
  unreadable_again unread x stop e = go (f r) refl
    where
      taken : run p (rest r) ≡ Ok (x, rest stop)
      taken = sym same_run ∙ (read_ok p s stop x again (runs s ∙ e)).0

      go : (a : Answer A) → f r ≡ a → ⊥
      go (Ok y, b) is = unread y b is
      go (Err m, b) is = not_both (x, rest stop) _ (run p (rest r)) taken (read_err p r b m sound (runs r ∙ is)).is

  -- reading fails at the same field from both
  pub fails_again : (m : Malformed) (new : Reading) → Fails (f s) m new → Fails (f r) m new
  fails_again m new fails = go (f r) refl
    where
      failed : IsFailedAt s m fails.left (run p (rest s))
      failed = read_err p s fails.left m again (runs s ∙ fails.is)

      go : (a : Answer A) → f r ≡ a → Fails (f r) m new
      go (Ok x, b) is = absurd (not_both (x, rest b) _ (run p (rest r)) (read_ok p r b x sound (runs r ∙ is)).0 (sym same_run ∙ failed.is))
      go (Err w, b) is =
          let t = read_err p r b w sound (runs r ∙ is) in
          let same : fault w.why t.due (drop w.offset r.bytes) ≡ fault m.why failed.due (drop m.offset s.bytes) = err_is {A = A × List ℕ} _ _ (sym t.is ∙ sym same_run ∙ failed.is) in
          let why : w.why ≡ m.why = ap why_in same in
          let left : length (drop w.offset r.bytes) ≡ length (drop m.offset s.bytes) = ap (λ (g : Fault). length (rest_in g)) same in
          let lw : length (drop w.offset r.bytes) ≡ length r.bytes - w.offset = grind (arith, common_steps) in
          let lm : length (drop m.offset s.bytes) ≡ length s.bytes - m.offset = grind (arith, common_steps) in
          let offset : w.offset ≡ m.offset = omega (arith, left, lw, lm, ap length bytes, t.within, failed.within) in
          let named : w ≡ m = λ j. record { offset = offset j; why = why j } in
          record {
            left = b;
            is = is ∙ ap (λ (x : Malformed). (Err x, b)) named;
            bytes = fails.bytes ∙ ap (λ (c : Reading). c.bytes) failed.left ∙ bytes ∙ sym (ap (λ (c : Reading). c.bytes) t.left);
          }

-- the parts of a body are read as their plan says
parts_run : (kind : Kind) (count axes : ℕ) (s : PointValue) → Runs (many count ring_sums (part_plan kind axes) s) (many_parts_at kind count axes s)
parts_run kind count axes s = runs_many count ring_sums (part_plan kind axes) (part_at kind axes) (part_runs kind axes) s

-- the same of the parts of a body
module _ (kind : Kind) (count axes : ℕ) (last : PointValue) (r s : Reading) (sound : IsSound r) (again : IsSound s) (bytes : s.bytes ≡ r.bytes) (place : s.place ≡ r.place) where
  pub parts_unreadable : IsUnreadable (many_parts_at kind count axes last r) → IsUnreadable (many_parts_at kind count axes last s)
  parts_unreadable unread = unreadable_again (many count ring_sums (part_plan kind axes) last) (many_parts_at kind count axes last) (parts_run kind count axes last) r s sound again bytes place unread

  pub parts_fail : (m : Malformed) (new : Reading) → Fails (many_parts_at kind count axes last s) m new → Fails (many_parts_at kind count axes last r) m new
  parts_fail m new fails = fails_again (many count ring_sums (part_plan kind axes) last) (many_parts_at kind count axes last) (parts_run kind count axes last) r s sound again bytes place m new fails
