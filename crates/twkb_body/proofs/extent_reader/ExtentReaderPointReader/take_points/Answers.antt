-- The numbers of the points were taken; or they can't be read, or some coordinate doesn't fit.
use Rattle.twkb_body.proofs.Prelude.{[], sym, ap, ◌∙◌, subst, arith, Reading, IsAxes}
use Rattle.twkb_body.proofs.ExtentRuns.{axes_known, two_few, took_nothing, run_read, run_stops, run_leaving}
use Rattle.twkb_body.proofs.NumberRuns.{rows_ahead}
use Rattle.twkb_body.proofs.extent_reader.ExtentReaderPointReader.take_points.Goals as goal

pub take_run-requires : goal.take_run-requires
take_run-requires g c = record { axes = subst IsAxes (sym c.requires.ready.1.there.axes_are) (axes_known _ _) }

pub returns-in-Err : goal.returns-in-Err
returns-in-Err g c =
    let stops = c.in-Err.ensures.err.before in
    record {
      read = tt;
      ended = λ at before. run_stops g.row.AXES c.args.count c.args.self.now.all c.args.self.now.points at c.args.cursor.now stops.middle c.take_run.new.self stops.numbers c.in-Err._fault before.there c.place_is_within.ensures stops.read stops.fewer stops.stops;
      bytes = ap (λ (r : Reading). r.bytes) stops.stops.1 ∙ stops.read.moved.bytes;
    }

pub returns-then-has_left : goal.returns-then-has_left
returns-then-has_left g c =
    let (zs, many, reads, on) = c.in_default.ensures.ok in
    let took = on c.args.self.now.all [] 0 (took_nothing g.row.AXES c.args.self.now.all) (omega arith) in
    record {
      read = tt;
      ended = λ at before. run_leaving g.row.AXES c.args.count c.args.self.now.all c.args.self.now.points at c.args.cursor.now c.take_run.new.self zs before.there c.place_is_within.ensures reads many ((took before.there.held before.there.stays).1 (sym c.has_left.ensures ∙ c.if-has_left.true));
      bytes = reads.moved.bytes;
    }

pub overflow_add-self : goal.overflow_add-self
overflow_add-self g c =
    let (at, before) = c.requires.ready in
    let (zs, many, reads, on) = c.in_default.ensures.ok in
    let some = two_few g.row.AXES 0 (subst IsAxes (sym before.there.axes_are) (axes_known _ _)) (omega arith) in
    let ahead = rows_ahead g.row.AXES c.args.count c.args.cursor.now c.take_run.new.self zs some reads many in
    record { fits = omega (arith, ahead, reads.moved.within, c.place_is_within.ensures.length_fits, before.counted, before.there.many) }

pub returns : goal.returns
returns g c =
    let (zs, many, reads, on) = c.in_default.ensures.ok in
    let took = on c.args.self.now.all [] 0 (took_nothing g.row.AXES c.args.self.now.all) (omega arith) in
    record {
      read = λ at before.
          let stays = sym c.has_left.ensures ∙ c.if-has_left.false in
          let grown = (took before.there.held before.there.stays).0 stays in
          run_read g.row.AXES c.args.count c.args.self.now.all c.take_run.new.to c.args.self.now.points at c.args.cursor.now c.take_run.new.self zs before.there c.place_is_within.ensures reads many grown.0 stays grown.1;
      ended = tt;
      bytes = reads.moved.bytes;
    }
