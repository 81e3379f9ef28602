-- The header was read, and the blob was skimmed from there on.
use Rattle.twkb_body.proofs.Prelude.{ap, Config}
use Rattle.twkb_body.proofs.Headers.{head_stands}
use Rattle.twkb_body.proofs.headed.read_and_skim.Goals as goal

pub skim_headed-requires-clause-read : goal.skim_headed-requires-clause-read
skim_headed-requires-clause-read g c = (c.requires.0, c.args.cursor.now, c.take_header-raw.ensures.read c.requires.0 c.requires.1)

pub returns-clause-header : goal.returns-clause-header
returns-clause-header g c = λ t at. head_stands t 1 c.args.cursor.now _ c.take_header-raw.result (c.take_header-raw.ensures.read t at)

pub returns-clause-cursor : goal.returns-clause-cursor
returns-clause-cursor g c = λ t at. ap (λ (d : Config g.V.Visit.State). d.reading) (c.skim_headed.ensures t c.args.cursor.now (c.take_header-raw.ensures.read t at))

pub returns-clause-visitor : goal.returns-clause-visitor
returns-clause-visitor g c = λ t at. ap (λ (d : Config g.V.Visit.State). d.state) (c.skim_headed.ensures t c.args.cursor.now (c.take_header-raw.ensures.read t at))
