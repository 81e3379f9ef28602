-- Numbers that are passed, and more after them.
use Rattle.twkb_num.proofs.Prelude.{◌≡◌, ◌+◌, ℕ, List, Ok, Err, [], ◌∷◌, ◌++◌, ap, sym, subst, refl, ◌∙◌, arith, append_assoc, length-append, Result, IfErr, OnOk, append-nil, Reading, passed, IsMoved, Spells, SpellsAll, SpellsMany, PassesNumbers, StopsAmong, NumFault}
use Rattle.twkb_num.proofs.CursorLemmas.{passed-append, IsMoved-after}

SpellsAll-append : (bs cs ns ms : List ℕ) → SpellsAll bs ns → SpellsAll cs ms → SpellsAll (bs ++ cs) (ns ++ ms)
SpellsAll-append bs cs [] ms a b = subst (λ ds. SpellsAll (ds ++ cs) ms) (sym a) b
SpellsAll-append bs cs (n ∷ ns) ms a b = (a.0, a.1 ++ cs, ap (λ ds. ds ++ cs) a.2 ∙ append_assoc a.0 a.1 cs, a.3, SpellsAll-append a.1 cs ns ms a.4 b)

-- short ones
pub short_passed : (n : ℕ) (a b : Reading) → SpellsMany (passed a b) n → IsMoved a b → PassesNumbers n a b
short_passed n a b q moved = record { numbers = q.numbers; count = q.count; spelled = q.spelled; moved = moved }

-- one
pub one_passed : (a b : Reading) (number : ℕ) → Spells (passed a b) number → IsMoved a b → PassesNumbers 1 a b
one_passed a b number one moved = record {
  numbers = number ∷ [];
  count = refl;
  spelled = (passed a b, [], sym (append-nil (passed a b)), one, refl);
  moved = moved;
}

-- some, and then more
pub more_passed : (n m all : ℕ) (a b c : Reading) → PassesNumbers n a b → PassesNumbers m b c → n + m ≡ all → PassesNumbers all a c
more_passed n m all a b c x y sum = record {
  numbers = x.numbers ++ y.numbers;
  count = omega (arith, length-append x.numbers y.numbers, x.count, y.count, sum);
  spelled = subst (λ bs. SpellsAll bs (x.numbers ++ y.numbers)) (passed-append a b c x.moved y.moved) (SpellsAll-append _ _ _ _ x.spelled y.spelled);
  moved = IsMoved-after a b c x.moved y.moved;
}

-- some, and then fewer than more
stops_further : (n m all : ℕ) (a b c : Reading) (fault : NumFault) → PassesNumbers n a b → StopsAmong m b c fault → n + m ≡ all → StopsAmong all a c fault
stops_further n m all a b c fault x y sum = record {
  before = n + y.before;
  fewer = omega (arith, y.fewer, sum);
  middle = y.middle;
  numbers = more_passed n y.before (n + y.before) a b y.middle x y.numbers refl;
  stops = y.stops;
}

-- what further ones answer, of all
pub ok_further : (n m all : ℕ) (a b c : Reading) (result : Result (Unit {0}) NumFault) → PassesNumbers n a b → OnOk result (PassesNumbers m b c) → n + m ≡ all → OnOk result (PassesNumbers all a c)
ok_further n m all a b c (Ok done) x y sum = more_passed n m all a b c x y sum
ok_further n m all a b c (Err fault) x y sum = tt

pub err_further : (n m all : ℕ) (a b c : Reading) (result : Result (Unit {0}) NumFault) → PassesNumbers n a b → IfErr result (StopsAmong m b c) → n + m ≡ all → IfErr result (StopsAmong all a c)
err_further n m all a b c (Ok done) x y sum = tt
err_further n m all a b c (Err fault) x y sum = stops_further n m all a b c fault x y sum
