-- The found blobs that are written to the room, without their lengths, are the hits.
use Rattle.twkb_layer.proofs.Prelude.{ap, sym, ◌∙◌, filled}
use Rattle.twkb_layer.proofs.Scanning.{hits_found}
use Rattle.twkb_layer.proofs.certified.Certified.scan.Goals as goal

pub returns-clause-room : goal.returns-clause-room
returns-clause-room c = λ trees h. c.scan_into.ensures.room trees h ∙ ap (λ hs. filled hs c.args.room.now) (sym (hits_found trees c.args.window.now))
