-- Two steps of a stream, one after the other, are one.
use Rattle.twkb_tool.proofs.Prelude.{◌≡◌, ◌∙◌, ℕ, ◌+◌, ◌-◌, ◌≤◌, List, ◌++◌, length, take, drop, IsTrue, sym, arith, append_assoc, length-append, length-drop, take_all, take-add, SourceState, SinkState, Gives, Takes}
use Rattle.twkb_num.specs.Cursor.{added}

added-append : (m : ℕ) (xs ys : List ℕ) → added (added m (length xs)) (length ys) ≡ added m (length (xs ++ ys))
added-append m xs ys = omega (arith, length-append xs ys)

pub Gives-more : (s t u : SourceState) (xs ys : List ℕ) → Gives s t xs → Gives t u ys → Gives s u (xs ++ ys)
Gives-more s t u xs ys a b = record {
  tells = b.tells ∙ a.tells;
  bytes = λ h. let told : IsTrue t.tells = rw a.tells h in
      rw (a.bytes h, b.bytes told) (sym (append_assoc xs ys u.rest));
  count = rw (b.count, a.count) (added-append s.moved xs ys);
}

pub Takes-more : (s t u : SinkState) (xs ys : List ℕ) → Takes s t xs → Takes t u ys → Takes s u (xs ++ ys)
Takes-more s t u xs ys a b = record {
  tells = b.tells ∙ a.tells;
  bytes = λ h. let told : IsTrue t.tells = rw a.tells h in
      rw (b.bytes told, a.bytes h) (append_assoc s.bytes xs ys);
  count = rw (b.count, a.count) (added-append s.moved xs ys);
}

-- a put of some of the rest of a text
pub Takes-on : (s t u : SinkState) (text : List ℕ) (i n : ℕ) → i ≤ length text
    → n ≤ length (take (length text - i) (drop i text)) → Takes s t (take i text)
    → Takes t u (take n (take (length text - i) (drop i text)))
    → (i + n ≤ length text) × Takes s u (take (i + n) text)
Takes-on s t u text i n low fits before now =
    let left : length (drop i text) ≡ length text - i = length-drop i text in
    let rest : take (length text - i) (drop i text) ≡ drop i text = take_all (length text - i) (drop i text) (omega arith) in
    let fits2 : n ≤ length (drop i text) = rw rest at fits in
    (omega arith, rw (take-add i n text) (Takes-more s t u _ _ before (rw rest at now)))
