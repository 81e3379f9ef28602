-- The room ends as the pen leaves it, and the answer is the number of the layer's vertices.
use Rattle.twkb_call.proofs.Prelude.{rules, ap, sym, subst, ◌≡◌, ◌+◌, ◌≤◌, min, Bool, true, false, cond, ltb, List, [], ◌∷◌, ◌++◌, length, take, drop, map, fold, slice_set, refl, ◌∙◌, arith, length-drop, append_assoc, Layer, IsCertifiedLayer, append-nil, length-take, filled, filled-nil, filled-push, filled-full}
use Rattle.std.proofs.Common.{length-append}
use Rattle.twkb_layer.specs.Vertices.{all_vertices}
use Rattle.std.specs.Borrow.{GName}
use Rattle.std.proofs.lemmas.Bool.{ltb-true, ltb-false}
use Rattle.twkb_head.specs.declared.boxes.Vertex.{Vertex}
use Rattle.twkb_call.specs.declared.drawing.Point.{Point}
use Rattle.twkb_call.specs.declared.drawing.Pen.{Pen}
use Rattle.twkb_call.specs.Vertices.{point_of}
use Rattle.twkb_call.specs.Devices.Drawing.{Drawing, drawing_of, draws}
use Rattle.twkb_call.proofs.drawing.draw.Goals as goal

module _ (lent : GName) (room : List Point) where
  -- the room with these points, as many as fit
  abbrev drawn_so_far : List Point → Drawing
  drawn_so_far seen = record { lent = lent; room = filled seen room; drawn = min (length seen) (length room) }

  filled_length : (seen : List Point) → length (filled seen room) ≡ length room
  filled_length seen = omega (arith, length-append (take (length room) seen) (drop (length seen) room), length-take (length room) seen, length-drop (length seen) room)

  -- one point more
  one_more : (seen : List Point) (p : Point) (fits : Bool) → fits ≡ ltb (min (length seen) (length room)) (length (filled seen room))
      → cond fits (record { lent = lent; room = slice_set (filled seen room) (min (length seen) (length room)) p; drawn = min (length seen) (length room) + 1 }) (drawn_so_far seen) ≡ drawn_so_far (seen ++ p ∷ [])
  one_more seen p true e =
      let less = ltb-true _ _ (sym e) in
      let at : min (length seen) (length room) ≡ length seen = omega (arith, less, filled_length seen) in
      let next : length seen + 1 ≡ min (length (seen ++ p ∷ [])) (length room) = omega (arith, less, filled_length seen, length-append seen (p ∷ [])) in
      (λ j. record { lent = lent; room = slice_set (filled seen room) (at j) p; drawn = at j + 1 }) ∙ (λ j. record { lent = lent; room = filled-push seen room p j; drawn = next j })
  one_more seen p false e =
      let full = ltb-false _ _ (sym e) in
      let past : length room ≤ length seen = omega (arith, full, filled_length seen) in
      let same : min (length seen) (length room) ≡ min (length (seen ++ p ∷ [])) (length room) = omega (arith, past, length-append seen (p ∷ [])) in
      λ j. record { lent = lent; room = sym (filled-full seen (p ∷ []) room past) j; drawn = same j }

  -- and all of them
  all_drawn : (seen : List Point) (vs : List Vertex) → fold draws (drawn_so_far seen) vs ≡ drawn_so_far (seen ++ map point_of vs)
  all_drawn seen [] = ap drawn_so_far (sym (append-nil seen))
  all_drawn seen (v ∷ vs) =
      ap (λ (s : Drawing). fold draws s vs) (one_more seen (point_of v) _ refl)
      ∙ (all_drawn (seen ++ point_of v ∷ []) vs ∙ ap drawn_so_far (append_assoc seen (point_of v ∷ []) (map point_of vs)))

  -- What the lent room ends as, which is what the pen holds at last.
  room_drawn : (vs : List Vertex) (pen : Pen) (x : List Point) → drawing_of pen ≡ fold draws (record { lent = lent; room = room; drawn = 0 }) vs
      → (lent ≡ pen.room.ghost_name → x ≡ pen.room.now) → x ≡ filled (map point_of vs) room
  room_drawn vs pen x is ends =
      let none : 0 ≡ min (length {A = Point} []) (length room) = omega arith in
      let all = is ∙ (ap (λ (s : Drawing). fold draws s vs) (λ j. record { lent = lent; room = filled-nil room j; drawn = none j }) ∙ all_drawn [] vs) in
      ends (sym (ap (λ (s : Drawing). s.lent) all)) ∙ ap (λ (s : Drawing). s.room) all

pub returns-clause-room : goal.returns-clause-room
returns-clause-room c = λ trees h.
    let certified = subst (λ bytes. IsCertifiedLayer trees bytes) (sym (ap (λ (layer : Layer). layer.bytes) c.as_certified-certified.ensures)) h in
    room_drawn _ _ (all_vertices trees) c.visit.new.visitor _ (c.visit.ensures.visitor trees certified) (search rules)

pub returns-clause-answer : goal.returns-clause-answer
returns-clause-answer c = search rules
