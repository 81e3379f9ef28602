-- The blob's slots follow those that were there, and say its entry.
use Rattle.twkb_layer.proofs.Prelude.{◌∷◌, [], take, ap, subst, sym, ◌∙◌, arith, AreWhole, entry_said, entries_kept}
use Rattle.twkb_layer.proofs.EachBlob.{lent_is}
use Rattle.twkb_layer.proofs.Entries.{blob_more, later, whole_more}
use Rattle.twkb_layer.proofs.placing.LentSlotsEachBlob.take_blob.Goals as goal

pub returns-in-Some-clause-state : goal.returns-in-Some-clause-state
returns-in-Some-clause-state c = λ tree at.
    let kept = take c.args.self.now.used c.args.self.now.room.now in
    lent_is c.args.self.now.room.ghost_name _ _ (ap entries_kept c.put-self.ensures.slots
    ∙ blob_more kept (c.in-Some.slot ∷ []) c.place-offset.result c.args.cursor.now tree c.read_and_pass-header.result c.requires.fits.1.0 c.in-Some.ensures c.place-offset.ensures.value (c.read_and_pass-header.ensures.header tree at))

pub returns-in-Some-clause-fits : goal.returns-in-Some-clause-fits
returns-in-Some-clause-fits c = λ more fits.
    let kept = take c.args.self.now.used c.args.self.now.room.now in (
      subst AreWhole (sym c.put-self.ensures.slots) (whole_more kept (c.in-Some.slot ∷ []) (entry_said c.place-offset.result c.read_and_pass-header.result) fits.0 c.in-Some.ensures),
      omega (arith, fits.1, c.put-self.ensures.used, c.put-self.ensures.length),
    )

pub returns-in-Some-clause-keeps : goal.returns-in-Some-clause-keeps
returns-in-Some-clause-keeps c = λ before many kept.
    let put = c.put-self.ensures in
    (omega (arith, kept.0, put.used), put.left ∙ later c.args.self.now.used c.put-self.result c.args.self.now.room.now before.room.now (omega (arith, put.used)) kept.1)

pub returns-in-None-clause-state : goal.returns-in-None-clause-state
returns-in-None-clause-state c = λ tree at.
    let kept = take c.args.self.now.used c.args.self.now.room.now in
    lent_is c.args.self.now.room.ghost_name _ _ (ap entries_kept c.put-self-in-None.ensures.slots
    ∙ blob_more kept c.long.result c.place-offset.result c.args.cursor.now tree c.read_and_pass-header.result c.requires.fits.1.0 c.long.ensures c.place-offset.ensures.value (c.read_and_pass-header.ensures.header tree at))

pub returns-in-None-clause-fits : goal.returns-in-None-clause-fits
returns-in-None-clause-fits c = λ more fits.
    let kept = take c.args.self.now.used c.args.self.now.room.now in (
      subst AreWhole (sym c.put-self-in-None.ensures.slots) (whole_more kept c.long.result (entry_said c.place-offset.result c.read_and_pass-header.result) fits.0 c.long.ensures),
      omega (arith, fits.1, c.put-self-in-None.ensures.used, c.put-self-in-None.ensures.length),
    )

pub returns-in-None-clause-keeps : goal.returns-in-None-clause-keeps
returns-in-None-clause-keeps c = λ before many kept.
    let put = c.put-self-in-None.ensures in
    (omega (arith, kept.0, put.used), put.left ∙ later c.args.self.now.used c.put-self-in-None.result c.args.self.now.room.now before.room.now (omega (arith, put.used)) kept.1)
