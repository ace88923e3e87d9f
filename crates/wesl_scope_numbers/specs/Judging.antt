-- What the walk knows that judges how names read, after some events: what references read now, by the numbers of names,
-- and what of the numbers of identifiers is judged at the end.
use Rattle.std.specs.Prelude.{ℕ, zero, suc, Bool, true, false, not, ◌&&◌, ◌==◌, Option, Some, None, List, [], ◌∷◌, get_or, set, replicate, if◌then◌else◌}
use Rattle.wesl_scope_occurrences.specs.Occurrences.{Standing, module_name, parameter, local, reference, word}
use Rattle.wesl_scope_occurrences.specs.Walk.{Here}
use Rattle.wesl_scope_occurrences.specs.Events.{Event, begins, meets, opens, closes, ends}
use Rattle.wesl_scope_open.specs.Table.{RowOf}
use Rattle.wesl_scope_numbers.specs.declared.agreed.Agreed.{Agreed}
use Rattle.wesl_scope_numbers.specs.declared.agreed.Agreed.TheVariants as made
use Rattle.wesl_scope_numbers.specs.declared.agreed.Visible.{Visible}

-- ---- on which number binders agree
-- whether binders agree on the number m
abbrev pub is_on : Agreed → ℕ → Bool
is_on (made.On j) m = j == m
is_on made.Apart m = false

-- on which number binders agree, with one more of number k
abbrev pub with_number : Option Agreed → ℕ → Agreed
with_number None k = made.On k
with_number (Some (made.On j)) k = if j == k then made.On j else made.Apart
with_number (Some made.Apart) k = made.Apart

-- on which number the binders of block b agree, where they are those that are visible
abbrev pub agreed_in : ℕ → Option Visible → Option Agreed
agreed_in b None = None
agreed_in b (Some v) = if v.block == b then Some v.agreed else None

-- the binders of a name that are visible, with one more of number k in block b, which hides those of other blocks
abbrev pub visible_with : Option Visible → ℕ → ℕ → Visible
visible_with old b k = record { block = b; agreed = with_number (agreed_in b old) k }

-- whether the binders agree on the number m, or this where there are none
abbrev pub agree_or : Option Agreed → Bool → ℕ → Bool
agree_or None b m = b
agree_or (Some a) b m = is_on a m

-- ---- the walk
-- of each name, by its number, the binders in a function that a reference reads, if one is visible
abbrev pub Row : Type 0
Row = RowOf Visible

-- what the walk knows after some events
pub record Judging : Type 0 where
  -- of each name the binders that a reference reads in a function
  pub visible : Row
  -- the same where each open block was opened, the innermost first
  pub outer : List Row
  -- of each name on which number the imports and global declarations agree
  pub globals : List (Option Agreed)
  -- of each number whether an import or a global declaration has it
  pub declares : List Bool
  -- of each number whether a binder has it
  pub bound : List Bool
  -- of each number whether a reference without a path has it that reads no binder in a function
  pub outside : List Bool
  -- whether those that read binders in a function have their number
  pub right : Bool

-- outside of functions no binder in one is read
abbrev pub seen_here : Here → Option Visible → Option Visible
seen_here here v = if here.is_local then v else None

-- whether a reference of number i that reads these binders has their number; where it reads none, it is judged at the end
abbrev pub right_of : Option Visible → ℕ → Bool
right_of (Some v) i = is_on v.agreed i
right_of None i = true

-- the number i of a reference is marked where that reads no binder in a function
abbrev pub outside_with : Option Visible → ℕ → List Bool → List Bool
outside_with (Some v) i marks = marks
outside_with None i marks = set marks i true

-- names read again what they read where the innermost open block was opened; where none is open, nothing changes
abbrev pub visible_again : List Row → Judging → Judging
visible_again [] s = s
visible_again (r ∷ rs) s = record s { visible = r; outer = rs }

-- where identifiers have these names, by their numbers
module _ (alike : List ℕ) where
  -- the number of the name that identifiers of number i have, 0 where `alike` has none for i
  abbrev pub name_at : ℕ → ℕ
  name_at i = get_or alike i 0

  -- the binder of this number is visible in block b from now on
  abbrev pub declared : ℕ → ℕ → Row → Row
  declared b i row = set row (name_at i) (Some (visible_with (get_or row (name_at i) None) b i))

  -- What it knows after it has met an identifier of number i that stands so. A parameter is visible at once, a local name
  -- later. A reference without a path is judged where it reads a binder in a function, and else noted for the end. One with
  -- a path and a word change nothing.
  abbrev pub meeting : Standing → Here → ℕ → Judging → Judging
  meeting module_name here i s = record s {
    globals = set s.globals (name_at i) (Some (with_number (get_or s.globals (name_at i) None) i));
    declares = set s.declares i true;
    bound = set s.bound i true;
  }
  meeting parameter here i s = record s { visible = declared here.block i s.visible; bound = set s.bound i true }
  meeting (local e) here i s = record s { bound = set s.bound i true }
  meeting (reference None) here i s = record s {
    outside = outside_with (seen_here here (get_or s.visible (name_at i) None)) i s.outside;
    right = s.right && right_of (seen_here here (get_or s.visible (name_at i) None)) i;
  }
  meeting (reference (Some path)) here i s = s
  meeting word here i s = s

  -- what it knows after one event: a local name is visible once its declaration has ended
  abbrev pub judging : Judging → Event → Judging
  judging s begins = s
  judging s (meets here r i) = meeting r here i s
  judging s opens = record s { outer = s.visible ∷ s.outer }
  judging s closes = visible_again s.outer s
  judging s (ends here i) = record s { visible = declared here.block i s.visible }

  -- what it knows after these events, one after the other
  abbrev pub judged : Judging → List Event → Judging
  judged s [] = s
  judged s (e ∷ es) = judged (judging s e) es

  -- ---- what is judged at the end
  -- an import or a global declaration of number m has the number of each that is spelled alike
  abbrev pub apart_at : Judging → ℕ → Bool
  apart_at s m = if get_or s.declares m false then agree_or (get_or s.globals (name_at m) None) true m else true

  -- a reference of number m that reads no binder in a function reads right
  abbrev pub outside_at : Judging → ℕ → Bool
  outside_at s m = if get_or s.outside m false then agree_or (get_or s.globals (name_at m) None) (not (get_or s.bound m false)) m else true

-- so it is with each number below n
abbrev pub all_below : ℕ → (ℕ → Bool) → Bool
all_below zero p = true
all_below (suc n) p = all_below n p && p n

-- nothing is known of so many names of so many numbers
abbrev pub begun : ℕ → ℕ → Judging
begun wide n = record { visible = replicate wide None; outer = []; globals = replicate wide None; declares = replicate n false; bound = replicate n false; outside = replicate n false; right = true }
