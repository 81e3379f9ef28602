-- The bytes decide which numbers were read, in lanes or one after another.
use Rattle.twkb_num.proofs.Prelude.{◌≡◌, length, Ok, Err, subst, rules, ◌∙◌, Reading, ReadsNumbers, StopsReading}
use Rattle.twkb_num.proofs.ManyLaws.{read_complete}
use Rattle.twkb_num.proofs.cursor.Cursor.svarints.Goals as goal

pub returns-then-wide-clause-complete : goal.returns-then-wide-clause-complete
returns-then-wide-clause-complete g c =
    let wide = c.lanes-wide in
    let read : ReadsNumbers c.args.self.now wide.new.cursor c.first_lanes.result = record {
      spelled = rw c.first_lanes.ensures (wide.ensures.some c.if-wide.true);
      moved = wide.ensures.moved c.if-wide.true;
    } in
    let all : length c.first_lanes.result ≡ g.row.K = search rules in
    read_complete g.row.K c.args.self.now wide.new.cursor (Ok c.first_lanes.result) all read tt

pub returns-in-Ok-clause-complete : goal.returns-in-Ok-clause-complete
returns-in-Ok-clause-complete g c =
    let read = c.each_svarint-read in
    let here : c.copied-ahead.result ≡ c.args.self.now = c.copied-ahead.ensures ∙ search rules in
    read_complete g.row.K c.args.self.now read.new.self (Ok read.new.numbers) read.ensures.all (subst (λ (r : Reading). ReadsNumbers r read.new.self read.new.numbers) here c.in-Ok.ensures.ok) tt

pub returns-in-Err-clause-complete : goal.returns-in-Err-clause-complete
returns-in-Err-clause-complete g c =
    let read = c.each_svarint-read in
    let here : c.copied-ahead.result ≡ c.args.self.now = c.copied-ahead.ensures ∙ search rules in
    read_complete g.row.K c.args.self.now read.new.self (Err c.in-Err.fault) tt tt (subst (λ (r : Reading). StopsReading g.row.K r read.new.self c.in-Err.fault) here c.in-Err.ensures.err)
