-- The size leads to the blob's end; without a size the blob is skimmed, and every box is skipped.
use Rattle.twkb_body.proofs.Prelude.{ap, sym, ◌∙◌, arith, added, Config}
use Rattle.twkb_body.proofs.Headers.{head_stands, sized_end, unsized_reads, passing_few}
use Rattle.twkb_body.proofs.headed.pass_headed.Goals as goal

pub overflow_add-size : goal.overflow_add-size
overflow_add-size c =
    let (g, before, read) = c.requires.read in
    let e = sized_end g 1 before c.args.cursor.now c.args.header c.in-Some.size read c.in-Some.is in
    omega (arith, e.fits)

pub go_to-requires : goal.go_to-requires
go_to-requires c =
    let (g, before, read) = c.requires.read in
    let e = sized_end g 1 before c.args.cursor.now c.args.header c.in-Some.size read c.in-Some.is in
    omega (arith, e.stop, e.within)

pub returns-in-Some : goal.returns-in-Some
returns-in-Some c = λ g before read.
    let e = sized_end g 1 before c.args.cursor.now c.args.header c.in-Some.size read c.in-Some.is in
    record {
      header_is = head_stands g 1 before c.args.cursor.now c.args.header read;
      bytes = ap (λ r. r.bytes) c.go_to.ensures ∙ read.moved.bytes;
      place = ap (λ r. r.place) c.go_to.ensures ∙ e.stop;
      count = ap (λ r. r.count) c.go_to.ensures ∙ e.count;
      few = e.few;
    }

pub returns-in-None : goal.returns-in-None
returns-in-None c = λ g before read.
    let skimmed = c.skim_headed.ensures g before read in
    let reads = unsized_reads g 1 before c.args.cursor.now c.args.header read c.in-None.is in
    record {
      header_is = head_stands g 1 before c.args.cursor.now c.args.header read;
      bytes = ap (λ (d : Config (Unit {0})). d.reading.bytes) skimmed;
      place = ap (λ (d : Config (Unit {0})). d.reading.place) skimmed;
      count = ap (λ (d : Config (Unit {0})). d.reading.count) skimmed ∙ ap (added before.count) (sym reads);
      few = omega (arith, reads, passing_few g _ _ read.stands);
    }
