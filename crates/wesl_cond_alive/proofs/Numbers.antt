-- The numbers of the sets of what the code has found.
use Rattle.std.proofs.Common.{◌≡◌, List, [], ◌∷◌, map, refl, ap}
use Rattle.wesl_cond_alive.specs.Views.{here_view, mark_view}
use Rattle.wesl_cond_alive.specs.declared.walk.Here.{Here}
use Rattle.wesl_cond_alive.specs.declared.walk.Mark.{Mark}

pub numbers_of_places : (hs : List Here) → map (λ h. h.set) hs ≡ map (λ h. h.set) (map here_view hs)
numbers_of_places [] = refl
numbers_of_places (h ∷ hs) = ap (λ ns. h.set ∷ ns) (numbers_of_places hs)

pub numbers_of_marks : (ms : List Mark) → map (λ m. m.set) ms ≡ map (λ m. m.set) (map mark_view ms)
numbers_of_marks [] = refl
numbers_of_marks (m ∷ ms) = ap (λ ns. m.set ∷ ns) (numbers_of_marks ms)
