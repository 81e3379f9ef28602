-- The row of the tops picks four spellings.
use Rattle.twkb_num.proofs.RowSpells.{picked_row}
use Rattle.twkb_num.proofs.LaneLemmas.{narrow_flag, narrow_spells}
use Rattle.twkb_num.proofs.vectors.narrow_four.Goals as goal

pub returns-clause-flag : goal.returns-clause-flag
returns-clause-flag c = narrow_flag c.args.tops _ c.requires.few c.narrow_len.ensures

pub returns-clause-spelled : goal.returns-clause-spelled
returns-clause-spelled c =
    let p = picked_row c.args.v _ c.picked.result _ c.args.tops c.fits-v.0 c.requires.tops c.picked.ensures c.narrow_places.ensures in
    narrow_spells c.args.v c.picked.result c.args.tops _ c.requires.few c.narrow_len.ensures p
