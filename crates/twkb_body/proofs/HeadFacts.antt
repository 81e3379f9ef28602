-- Facts about a header that was read.
use Rattle.twkb_body.proofs.Prelude.{◌≡◌, ℕ, ◌+◌, ◌-◌, ◌≤◌, ◌++◌, length, Option, Some, None, IfSome, option_map, sym, ap, subst, ◌∙◌, arith, length-append, common_steps, Reading, passed, IsMoved, Head, SizeField, IsHeadAt}

module _ (r new : Reading) (head : Head) (depth : ℕ) (at : IsHeadAt head depth r.place (passed r new)) (moved : IsMoved r new) where
  -- the size field ends within the header
  pub head_size : (stop : ℕ) → new.place ≤ stop → IfSome head.size (λ size. size.after ≤ stop)
  head_size stop le =
      subst (λ (h : Head). IfSome h.size (λ size. size.after ≤ stop)) (sym at.fields) (go at.header.size)
    where
      long : 2 + length at.is.extended_bytes + length at.is.size_bytes ≤ new.place - r.place
      long =
          let all : length (passed r new) ≡ 2 + (length at.is.extended_bytes + (length at.is.size_bytes + length at.is.box_bytes)) =
          ap length at.is.fields ∙ omega (arith, length-append at.is.extended_bytes (at.is.size_bytes ++ at.is.box_bytes), length-append at.is.size_bytes at.is.box_bytes) in
          let len : length (passed r new) ≡ new.place - r.place = grind (arith, common_steps, moved.within) in
          omega (arith, all, len)

      go : (o : Option ℕ) → IfSome {T = SizeField} (option_map (λ n. record { value = n; offset = r.place + 2 + length at.is.extended_bytes; after = r.place + 2 + length at.is.extended_bytes + length at.is.size_bytes }) o) (λ size. size.after ≤ stop)
      go None = tt
      go (Some n) = omega (arith, long, le, moved.ahead)
