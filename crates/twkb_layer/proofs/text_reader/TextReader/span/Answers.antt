-- Two numbers with two points between them are a range, and nothing else is.
use Rattle.twkb_layer.proofs.Prelude.{◌≡◌, ◌++◌, ◌∷◌, refl, ap, Some, Span}
use Rattle.twkb_layer.proofs.Texts.{range_split, range_is, value_stays, spans_equal}
use Rattle.twkb_layer.proofs.text_reader.TextReader.span.Goals as goal

pub returns-in_err-lo-clause-exact : goal.returns-in_err-lo-clause-exact
returns-in_err-lo-clause-exact c = λ front behind span e r stop.
    let no = c.in_err-lo.ensures.exact r.lo (46 ∷ 46 ∷ (r.hi ++ behind)) span.lo (range_split c.args.self.now front behind span e r) r.lo_is refl in
    absurd (cc (no.0))

pub returns-then-not-skip-clause-exact : goal.returns-then-not-skip-clause-exact
returns-then-not-skip-clause-exact c = λ front behind span e r stop.
    let lo = c.in_ok-lo.ensures.exact r.lo (46 ∷ 46 ∷ (r.hi ++ behind)) span.lo (range_split c.args.self.now front behind span e r) r.lo_is refl in
    let no = c.if-not-skip.ensures.exact (r.hi ++ behind) lo.1 in
    absurd (cc (no.0))

pub returns-in_err-hi-clause-exact : goal.returns-in_err-hi-clause-exact
returns-in_err-hi-clause-exact c = λ front behind span e r stop.
    let lo = c.in_ok-lo.ensures.exact r.lo (46 ∷ 46 ∷ (r.hi ++ behind)) span.lo (range_split c.args.self.now front behind span e r) r.lo_is refl in
    let dots = c.if-not-skip.ensures.exact (r.hi ++ behind) lo.1 in
    let no = c.in_err-hi.ensures.exact r.hi behind span.hi dots.1 r.hi_is stop in
    absurd (cc (no.0))

pub returns-clause-some : goal.returns-clause-some
returns-clause-some c =
    rw (value_stays c.in_ok-lo.lo c.in_ok-lo.ensures.small, value_stays c.in_ok-hi.hi c.in_ok-hi.ensures.small)
    (range_is c.args.self.now _ _ _ c.in_ok-lo.lo c.in_ok-hi.hi c.in_ok-lo.ensures.some c.if-not-skip.ensures.taken c.in_ok-hi.ensures.some)

pub returns-clause-exact : goal.returns-clause-exact
returns-clause-exact c = λ front behind span e r stop.
    let lo = c.in_ok-lo.ensures.exact r.lo (46 ∷ 46 ∷ (r.hi ++ behind)) span.lo (range_split c.args.self.now front behind span e r) r.lo_is refl in
    let dots = c.if-not-skip.ensures.exact (r.hi ++ behind) lo.1 in
    let hi = c.in_ok-hi.ensures.exact r.hi behind span.hi dots.1 r.hi_is stop in
    let lo_is : c.in_ok-lo.lo ≡ span.lo = cc (lo.0) in
    let hi_is : c.in_ok-hi.hi ≡ span.hi = cc (hi.0) in
    (rw (value_stays c.in_ok-lo.lo c.in_ok-lo.ensures.small, value_stays c.in_ok-hi.hi c.in_ok-hi.ensures.small) (ap (λ (s : Span). Some s) (spans_equal _ _ span lo_is hi_is)), hi.1)
