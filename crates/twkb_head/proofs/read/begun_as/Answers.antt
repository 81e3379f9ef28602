-- Kind and fields are told by the bits of two bytes that name them.
use Rattle.std.proofs.Common.{◌≡◌, ℕ, ◌+◌, ◌*◌, ◌/◌, ◌%◌, ◌<◌, refl, ap, ap₂, ◌∙◌, arith}
use Rattle.std.specs.Int.Bits.{bit_and}
use Rattle.std.proofs.lemmas.Nat.{and_block, and_mask}
use Rattle.std.proofs.lemmas.Int.{ints}
use mir.Val.{to_z, of_z}
use Rattle.std.specs.Int.{w8}
use Rattle.twkb_num.specs.Varint.{zigzag_value}
use Rattle.twkb_head.proofs.HeadSteps.{first_allowed, two_back}
use Rattle.twkb_head.proofs.read.begun_as.Goals as goal

-- the bits of two bytes that tell the kind and the announced fields
kind_and_fields : (first metadata : ℕ) → first < 256 → bit_and (first + 256 * metadata) 0x1f0f ≡ first % 16 + 256 * (metadata % 32)
kind_and_fields first metadata low =
    let split : first + 256 * metadata ≡ metadata * 256 + first = omega arith in
    let both = and_block 8 metadata 0x1f first 0x0f low (omega arith) in
    ap (λ x. bit_and x 0x1f0f) split ∙ omega (arith, both, and_mask first 4, and_mask metadata 5)

-- the bits of two bytes as one number, which are what other two are
bits_are : (first metadata low high : ℕ) → first < 256 → low ≡ first → high ≡ metadata → bit_and (low + 256 * high) 0x1f0f ≡ first % 16 + 256 * (metadata % 32)
bits_are first metadata low high fits is more = ap₂ (λ x y. bit_and (x + 256 * y) 0x1f0f) is more ∙ kind_and_fields first metadata fits

pub returns-then-both-from-clause-only : goal.returns-then-both-from-clause-only
returns-then-both-from-clause-only c =
    let is = bits_are c.args.first c.args.metadata _ _ c.ranges.first.fits c.from.ensures c.from-2.ensures in (
      λ no. absurd (cc (no)),
      λ both. absurd (c.if-both-from.true (omega (arith, is, c.from-3.ensures, c.from-4.ensures, c.code.ensures, both.0, both.1))),
    )

pub returns-clause-some : goal.returns-clause-some
returns-clause-some c = λ before sound moved two.
    let is = bits_are c.args.first c.args.metadata _ _ c.ranges.first.fits c.from.ensures c.from-2.ensures in
    let fits : to_z w8 (of_z w8 c.precision_of.result) ≡ zigzag_value (c.args.first / 16) = omega (arith, ints, c.precision_of.ensures.value) in
    record {
      type_byte = c.args.first;
      metadata = c.args.metadata;
      bytes = two;
      moved = moved;
      kind = omega (arith, is, c.if-both-from.false, c.from-3.ensures, c.from-4.ensures, c.code.ensures, c.code.type_inv);
      allowed = first_allowed c.args.kind;
      precision = fits;
      announced = omega (arith, is, c.if-both-from.false, c.from-3.ensures, c.from-4.ensures, c.code.ensures, c.code.type_inv, c.requires.few);
      start = omega (arith, c.place.ensures.value, two_back before c.args.cursor.now _ _ moved two);
    }

pub returns-clause-only : goal.returns-clause-only
returns-clause-only c =
    let is = bits_are c.args.first c.args.metadata _ _ c.ranges.first.fits c.from.ensures c.from-2.ensures in (
      λ yes. (
        omega (arith, is, c.if-both-from.false, c.from-3.ensures, c.from-4.ensures, c.code.ensures, c.code.type_inv),
        omega (arith, is, c.if-both-from.false, c.from-3.ensures, c.from-4.ensures, c.code.ensures, c.code.type_inv, c.requires.few),
      ),
      λ both. refl,
    )
