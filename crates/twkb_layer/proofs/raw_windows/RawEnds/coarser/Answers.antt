-- Ten steps of the finer precision are one step of the coarser one.
use Rattle.twkb_layer.proofs.Prelude.{ℤ, pos, ◌*ℤ◌, int_lt, FitsSigned, ap, sym, ◌∙◌, rules, w64, to_z-of_z}
use Rattle.twkb_layer.proofs.RawWindows.{coarser_ends}
use Rattle.twkb_layer.proofs.raw_windows.RawEnds.coarser.Goals as goal

pub returns : goal.returns
returns c = λ p range le exact.
    let least = c.args.self.now.least in
    let greatest = c.args.self.now.greatest in
    let least_fits : FitsSigned w64 c.tenth_up.result = search rules in
    let greatest_fits : FitsSigned w64 c.tenth_down.result = search rules in
    let least_is = to_z-of_z w64 least (search rules) in
    let greatest_is = to_z-of_z w64 greatest (search rules) in
    simp to_z-of_z (coarser_ends p range c.args.self.now (record { least = c.tenth_up.result; greatest = c.tenth_down.result }) le exact
    (λ z. ap (λ (n : ℤ). int_lt (z *ℤ pos 10) n) (sym least_is) ∙ c.tenth_up.ensures z) (λ z. ap (λ (n : ℤ). int_lt n (z *ℤ pos 10)) (sym greatest_is) ∙ c.tenth_down.ensures z))
