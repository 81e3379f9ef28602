-- The laws of headers, which follow from their definitions alone.
use Rattle.std.specs.Prelude.{◌≡◌, ℕ, ◌≤◌, List, ◌++◌}
use Rattle.twkb_head.specs.declared.kinds.Kind.{Kind}
use Rattle.twkb_head.specs.Header.{Header, IsHeader}
use Rattle.twkb_head.specs.BegunHeader.{Field, IsAllowedUnder, IsBegunHeader}

-- a kind that is allowed at a depth under one limit is allowed there under any greater limit
abbrev pub AllowedUnderGreater : Type 0
AllowedUnderGreater = (limit greater depth : ℕ) (kind : Kind) → limit ≤ greater
    → IsAllowedUnder limit kind depth → IsAllowedUnder greater kind depth

-- a header begun under one limit is begun under any greater limit, and the field due is unchanged
abbrev pub BegunUnderGreater : Type 0
BegunUnderGreater = (limit greater depth : ℕ) (p : List ℕ) (due : Field) → limit ≤ greater
    → IsBegunHeader limit depth p due → IsBegunHeader greater depth p due

-- two headers with which given bytes begin are equal, and end at one place
abbrev pub OneHeader : Type 0
OneHeader = (h k : Header) (front behind front' behind' : List ℕ) → front ++ behind ≡ front' ++ behind'
    → IsHeader h front → IsHeader k front' → (h ≡ k) × (front ≡ front')
