-- The header was read, and the blob passed.
use Rattle.twkb_body.proofs.headed.read_and_pass.Goals as goal

pub pass_headed-requires-clause-read : goal.pass_headed-requires-clause-read
pass_headed-requires-clause-read c = let (g, at) = c.requires in (g, c.args.cursor.now, c.take_header-header.ensures.read g at)

pub returns-clause-header : goal.returns-clause-header
returns-clause-header c = λ g at. (c.pass_headed.ensures g c.args.cursor.now (c.take_header-header.ensures.read g at)).header_is

pub returns-clause-bytes : goal.returns-clause-bytes
returns-clause-bytes c = let (g, at) = c.requires in (c.pass_headed.ensures g c.args.cursor.now (c.take_header-header.ensures.read g at)).bytes

pub returns-clause-place : goal.returns-clause-place
returns-clause-place c = λ g at. (c.pass_headed.ensures g c.args.cursor.now (c.take_header-header.ensures.read g at)).place

pub returns-clause-count : goal.returns-clause-count
returns-clause-count c = λ g at. (c.pass_headed.ensures g c.args.cursor.now (c.take_header-header.ensures.read g at)).count

pub returns-clause-once : goal.returns-clause-once
returns-clause-once c = λ g at. (c.pass_headed.ensures g c.args.cursor.now (c.take_header-header.ensures.read g at)).few
