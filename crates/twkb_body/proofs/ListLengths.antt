-- How many bytes there are up to an id of a list: at least two of a header, one of a count, and one of each id.
use Rattle.twkb_body.proofs.Prelude.{ℕ, suc, ◌+◌, ◌≤◌, List, [], ◌∷◌, ◌++◌, length, ℤ, ap, arith, length-append, IsSigned, Sequence, Header, IsHeader, EndsInIds, own_ids, member_ids, HasLongList}

ids_length : (ids : List ℤ) (bytes : List ℕ) → Sequence IsSigned ids bytes → length ids ≤ length bytes
ids_length [] bytes s = omega arith
ids_length (z ∷ zs) bytes (front, rest, parts, (n, spells, means), later) =
    omega (arith, ap length parts, length-append front rest, spells.some, ids_length zs rest later)

head_length : (h : Header) (head : List ℕ) → IsHeader h head → 2 ≤ length head
head_length h head is = omega (arith, ap length is.fields)

ends_length : (many depth : ℕ) (p : List ℕ) → EndsInIds many depth p → many + 3 ≤ length p
ends_length many depth p (own_ids _ _ h n head count id_list ids is allowed has spells le times parts) =
    omega (arith, ap length parts, length-append head (count ++ id_list), length-append count id_list, head_length h head is, spells.some, times.0, ids_length ids id_list times.1)
ends_length many depth p (member_ids _ _ h n head count id_list wholes rest ids gs is allowed not_empty single spells has few whole ends parts) =
    omega (
      arith,
      ap length parts,
      length-append head (count ++ (id_list ++ (wholes ++ rest))),
      length-append count (id_list ++ (wholes ++ rest)),
      length-append id_list (wholes ++ rest),
      length-append wholes rest,
      ends_length many (suc depth) rest ends,
    )

pub long_list_length : (depth : ℕ) (bytes : List ℕ) → HasLongList depth bytes → 20 ≤ length bytes
long_list_length depth bytes (p, behind, parts, ends) = omega (arith, ap length parts, length-append p behind, ends_length 17 depth p ends)
