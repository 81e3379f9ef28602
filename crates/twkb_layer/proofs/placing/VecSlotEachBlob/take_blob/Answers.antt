-- The blob's slots say its entry.
use Rattle.twkb_layer.proofs.Prelude.{◌∷◌, [], ap, subst, sym, ◌∙◌, arith, AreWhole, entry_said, entries_kept}
use Rattle.twkb_layer.proofs.Entries.{blob_more, whole_more}
use Rattle.twkb_layer.proofs.placing.VecSlotEachBlob.take_blob.Goals as goal

pub returns-in-Some-clause-state : goal.returns-in-Some-clause-state
returns-in-Some-clause-state g c = λ tree at.
    ap entries_kept c.push.ensures.items
    ∙ blob_more c.args.self.now.items (c.in-Some.slot ∷ []) c.place-offset.result c.args.cursor.now tree c.read_and_pass-header.result c.requires.fits.1.0 c.in-Some.ensures c.place-offset.ensures.value (c.read_and_pass-header.ensures.header tree at)

pub returns-in-Some-clause-fits : goal.returns-in-Some-clause-fits
returns-in-Some-clause-fits g c = λ more fits. (
  subst AreWhole (sym c.push.ensures.items) (whole_more c.args.self.now.items (c.in-Some.slot ∷ []) (entry_said c.place-offset.result c.read_and_pass-header.result) fits.0 c.in-Some.ensures),
  omega (arith, fits.1, c.push.ensures.len, c.push.ensures.capacity),
)

pub returns-in-None-clause-state : goal.returns-in-None-clause-state
returns-in-None-clause-state g c = λ tree at.
    ap entries_kept c.push-in-None.ensures.items
    ∙ blob_more c.args.self.now.items c.long.result c.place-offset.result c.args.cursor.now tree c.read_and_pass-header.result c.requires.fits.1.0 c.long.ensures c.place-offset.ensures.value (c.read_and_pass-header.ensures.header tree at)

pub returns-in-None-clause-fits : goal.returns-in-None-clause-fits
returns-in-None-clause-fits g c = λ more fits. (
  subst AreWhole (sym c.push-in-None.ensures.items) (whole_more c.args.self.now.items c.long.result (entry_said c.place-offset.result c.read_and_pass-header.result) fits.0 c.long.ensures),
  omega (arith, fits.1, c.push-in-None.ensures.len, c.push-in-None.ensures.capacity),
)
