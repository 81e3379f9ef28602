-- The row of the tops picks two spellings.
use Rattle.twkb_num.proofs.RowSpells.{picked_row}
use Rattle.twkb_num.proofs.LaneLemmas.{wide_flag, wide_spells}
use Rattle.twkb_num.proofs.vectors.wide_two.Goals as goal

pub returns-clause-flag : goal.returns-clause-flag
returns-clause-flag c = wide_flag c.args.tops _ c.requires.few c.wide_len.ensures

pub returns-clause-spelled : goal.returns-clause-spelled
returns-clause-spelled c =
    let p = picked_row c.args.v _ c.picked.result _ c.args.tops c.fits-v.0 c.requires.tops c.picked.ensures c.wide_places.ensures in
    wide_spells c.args.v c.picked.result c.args.tops _ c.requires.few c.wide_len.ensures p
