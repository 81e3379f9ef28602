-- A layer is its blobs one after another, in at most one way.
use Rattle.twkb_layer.proofs.Layers.{layer_blobs, blobs_layer, parts_once, no_prefix}
use Rattle.twkb_layer.proofs.laws.layers.Goals as goal

pub returns : goal.returns
returns c = record { its_blobs = λ trees bytes. (layer_blobs trees bytes, blobs_layer trees bytes); at_most_one = parts_once; no_prefix = no_prefix }
