-- If memory is refused, nothing was read.
use Rattle.twkb_layer.proofs.Prelude.{ap, ◌∙◌, entry_of, entries_kept, after_blobs, adds}
use Rattle.twkb_layer.proofs.EachBlob.{all_added}
use Rattle.twkb_layer.proofs.Keeping.{adds_nothing}
use Rattle.twkb_layer.proofs.directory.Directory.build_in.Goals as goal

pub returns-in_err-slots-clause-count : goal.returns-in_err-slots-clause-count
returns-in_err-slots-clause-count g c = adds_nothing _ _ c.most_slots.ensures.fits

pub returns-clause-directory : goal.returns-clause-directory
returns-clause-directory g c = λ trees h.
    c.each_blob.ensures.state trees h ∙ (ap (λ items. after_blobs (adds entry_of) trees (entries_kept items)) c.in_ok-slots.ensures.items ∙ all_added entry_of _ 0 0 trees)
