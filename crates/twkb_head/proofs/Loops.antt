-- Reading many values in a loop: its start, its step and its end.
use Rattle.twkb_head.proofs.Prelude.{◌≡◌, ℕ, suc, ◌+◌, ◌-◌, ◌<◌, ◌≤◌, List, [], ◌∷◌, ◌++◌, Ok, Err, refl, sym, ap, ◌∙◌, append_assoc, arith, append-nil, Reading, Answer, Reader, ◌>>=◌, viewed, many_at, Fails, Malformed}

-- an answer with values put in front of the values that were read
abbrev pub behind_front : {A : Type 0} → List A → Answer (List A) → Answer (List A)
behind_front front answer = viewed (λ xs. front ++ xs) answer

regroup : {A : Type 0} (front : List A) (x : A) (a : Answer (List A)) → behind_front front (viewed (λ xs. x ∷ xs) a) ≡ behind_front (front ++ x ∷ []) a
regroup {A} front x (Ok xs, r) = ap (λ (zs : List A). (Ok zs, r)) (sym (append_assoc front (x ∷ []) xs))
regroup front x (Err m, r) = refl

module _ {A S : Type 0} (after : S → A → S) (read : S → Reader A) (count : ℕ) (total : Answer (List A)) where
  -- the values in front have been read, i of count, and total is what all of them give
  pub record IsLoop (front : List A) (i : ℕ) (s : S) (r : Reading) : Type 0 where
    pub is : behind_front front (many_at (count - i) after read s r) ≡ total

  next : (i : ℕ) (s : S) (r : Reading) → i < count
      → many_at (count - i) after read s r ≡ (read s r >>= λ x a. viewed (λ xs. x ∷ xs) (many_at (count - (i + 1)) after read (after s x) a))
  next i s r lt = let k : count - i ≡ suc (count - (i + 1)) = omega arith in ap (λ (m : ℕ). many_at m after read s r) k

  pub loop_begins : (s : S) (r : Reading) → many_at count after read s r ≡ total → IsLoop [] 0 s r
  loop_begins s r e = record { is = ap (λ (m : ℕ). behind_front [] (many_at m after read s r)) (omega arith) ∙ nothing (many_at count after read s r) ∙ e }
    where
      nothing : (a : Answer (List A)) → behind_front [] a ≡ a
      nothing (Ok x, r) = refl
      nothing (Err m, r) = refl

  pub loop_goes_on : (front : List A) (i : ℕ) (s : S) (r new : Reading) (x : A) → i < count → read s r ≡ (Ok x, new) → IsLoop front i s r → IsLoop (front ++ x ∷ []) (i + 1) (after s x) new
  loop_goes_on front i s r new x lt e l = record {
    is =
        sym (regroup front x (many_at (count - (i + 1)) after read (after s x) new))
        ∙ ap (behind_front front) (sym (next i s r lt
        ∙ ap (λ (q : Answer A). q >>= λ x a. viewed (λ xs. x ∷ xs) (many_at (count - (i + 1)) after read (after s x) a)) e)) ∙ l.is;
  }

  pub loop_fails : (front : List A) (i : ℕ) (s : S) (r new : Reading) (m : Malformed) → i < count → Fails (read s r) m new → IsLoop front i s r → Fails total m new
  loop_fails front i s r new m lt e l = record {
    left = e.left;
    is = sym l.is ∙ ap (behind_front front) (next i s r lt
        ∙ ap (λ (q : Answer A). q >>= λ x a. viewed (λ xs. x ∷ xs) (many_at (count - (i + 1)) after read (after s x) a)) e.is);
    bytes = e.bytes;
  }

  pub loop_ends : (front : List A) (i : ℕ) (s : S) (r : Reading) → count ≤ i → IsLoop front i s r → total ≡ (Ok front, r)
  loop_ends front i s r le l =
      let k : count - i ≡ 0 = omega arith in
      sym l.is ∙ ap (λ (m : ℕ). behind_front front (many_at m after read s r)) k ∙ ap (λ (xs : List A). (Ok xs, r)) (append-nil front)

-- if the first read fails, both reads in turn fail
pub first_fails : {A B : Type 0} (a : Answer A) (k : A → Reader B) (m : Malformed) (new : Reading) → Fails a m new → Fails (a >>= k) m new
first_fails {A} {B} a k m new e = record { left = e.left; is = ap (λ (q : Answer A). q >>= k) e.is; bytes = e.bytes }

-- if the first read gives a value and the second fails, both reads in turn fail
pub then_fails : {A B : Type 0} (a : Answer A) (k : A → Reader B) (x : A) (mid : Reading) (m : Malformed) (new : Reading) → a ≡ (Ok x, mid) → Fails (k x mid) m new → Fails (a >>= k) m new
then_fails {A} {B} a k x mid m new ok e = record { left = e.left; is = ap (λ (q : Answer A). q >>= k) ok ∙ e.is; bytes = e.bytes }
