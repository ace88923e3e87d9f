-- What reading does: how the reading of the tokens that were left is that of the tokens that are left now.
use Rattle.std.specs.Prelude.{◌≡◌, ◌≤◌, ◌⊎◌, ℕ, Bool, true, false, List, [], ◌∷◌, ◌++◌, map, length, Option, Some, None, IfSome}
use Rattle.std.specs.Option.{ForSome}
use Rattle.wesl_tree_names.specs.Path.{Text, Origin}
use Rattle.wesl_tree_interner.specs.Interned.{texts_of}
use Rattle.wesl_tree_syntax.specs.Tree.{Label, Tree, TreeOf, forest_of, respell, respell_label}
use Rattle.wesl_tree_syntax.specs.Unit.{name_in}
use Rattle.wesl_text_tokens.specs.Tokens.{Token}
use Rattle.wesl_text_tokens.specs.Views.{token_of}
use Rattle.wesl_text_form.specs.Spelling.{Label as SpelledLabel}
use Rattle.wesl_text_reading.specs.Leaves.{Read}
use Rattle.wesl_text_read.specs.declared.reader.Fault.{Fault}
use Rattle.wesl_text_read.specs.declared.reader.Fault.TheVariants as faults
use Rattle.wesl_text_read.specs.declared.reader.Reader.{Reader}

-- the tokens that are not read yet
abbrev pub ahead : Reader → List Token
ahead r = map (λ p. token_of p.token) r.rest.now

-- the names met so far, in the order of their numbers
abbrev pub names_of : Reader → List Text
names_of r = texts_of r.names

-- one table begins the other
abbrev pub Begins : List Text → List Text → Type 0
Begins old new = (later : List Text) × (new ≡ old ++ later)

-- whether a fault is want of memory
abbrev pub is_memory : Fault → Bool
is_memory faults.Memory = true
is_memory _ = false

-- A part is read: unless a fault is noted by then, what was to be read has come to what is still to be read, by whatever
-- names the table ends with. Where a fault other than want of memory is noted, and none was before, there is nothing to be
-- read.
-- The first fault is kept, and no token comes back.
pub record Leads {A : Type 0} (before after : List Text → Option A) (old new : Reader) : Type 0 where
  pub read : new.fault ≡ None → (names : List Text) → Begins (names_of new) names → before names ≡ after names
  pub refused : old.fault ≡ None → IfSome new.fault (λ f.
      is_memory f ≡ false → (names : List Text) → Begins (names_of new) names → before names ≡ None)
  pub kept : ForSome old.fault (λ f. new.fault ≡ Some f)
  pub begins : Begins (names_of old) (names_of new)
  pub levels : new.levels ≡ old.levels
  pub fewer : length (ahead new) ≤ length (ahead old)

-- tokens are left behind, where they are there
abbrev pub Skips : (List Token → Option (List Token)) → Reader → Reader → Type 0
Skips f old new = Leads (λ _. f (ahead old)) (λ _. Some (ahead new)) old new

-- a label is read, whose identifiers are names by the table
abbrev pub ReadsLabel : (List Token → Read SpelledLabel) → Label → Reader → Reader → Type 0
ReadsLabel f l old new = Leads (λ _. f (ahead old)) (λ names. Some (respell_label (name_in names) l, ahead new)) old new

-- a text is read
abbrev pub ReadsText : (List Token → Read Text) → Text → Reader → Reader → Type 0
ReadsText f t old new = Leads {A = Text × List Token} (λ _. f (ahead old)) (λ _. Some (t, ahead new)) old new

-- where a path begins is read, and names behind one another
abbrev pub ReadsOrigin : (List Token → Read Origin) → Origin → Reader → Reader → Type 0
ReadsOrigin f o old new = Leads {A = Origin × List Token} (λ _. f (ahead old)) (λ names. Some (o, ahead new)) old new

abbrev pub ReadsTexts : (List Token → Read (List Text)) → List Text → Reader → Reader → Type 0
ReadsTexts f ts old new =
    Leads {A = List Text × List Token} (λ _. f (ahead old)) (λ names. Some (ts, ahead new)) old new

-- what the tokens tell is told, and what is left behind it
abbrev pub Tells : {A : Type 0} → (List Token → A × List Token) → A → Reader → Reader → Type 0
Tells f x old new = Leads (λ _. Some (f (ahead old))) (λ _. Some (x, ahead new)) old new

-- a name is given a number, and has it in the table
abbrev pub Numbers : Text → ℕ → Reader → Reader → Type 0
Numbers t i old new =
    Leads {A = Text × List Token} (λ _. Some (t, ahead old)) (λ names. Some (name_in names i, ahead new)) old new

-- a text is made, and no token is read
abbrev pub Makes : Text → Text → Reader → Reader → Type 0
Makes t made old new = Leads {A = Text × List Token} (λ _. Some (t, ahead old)) (λ _. Some (made, ahead new)) old new

-- a tree is read, spelled by the names of the table and without its spans
abbrev pub Reads : (List Token → Read (TreeOf Text)) → Tree → Reader → Reader → Type 0
Reads f t old new = Leads (λ _. f (ahead old)) (λ names. Some (respell (name_in names) t, ahead new)) old new

-- what goes on behind a tree is read, and the whole is another tree
abbrev pub ReadsOn : (TreeOf Text → List Token → Read (TreeOf Text)) → Tree → Tree → Reader → Reader → Type 0
ReadsOn f first t old new =
    Leads (λ names. f (respell (name_in names) first) (ahead old))
    (λ names. Some (respell (name_in names) t, ahead new)) old new

-- the fault that was noted first
abbrev pub first_fault : Option Fault → Fault → Fault
first_fault None f = f
first_fault (Some g) f = g

-- this fault is noted where none was before, and nothing is left to be read
pub record Stops (f : Fault) (old new : Reader) : Type 0 where
  pub noted : new.fault ≡ Some (first_fault old.fault f)
  pub none : ahead new ≡ []
  pub names : new.names ≡ old.names
  pub levels : new.levels ≡ old.levels

-- a fault of the text is noted so
abbrev pub Refuses : Reader → Reader → Type 0
Refuses old new = (f : Fault) × (is_memory f ≡ false) × Stops f old new

-- nothing changes, or want of memory is noted
abbrev pub Keeps : Reader → Reader → Type 0
Keeps old new = (new ≡ old) ⊎ Stops faults.Memory old new

-- a tree is made which is this one, or want of memory is noted
abbrev pub Builds : Tree → Tree → Reader → Reader → Type 0
Builds t made old new = (made ≡ t) × (new ≡ old) ⊎ Stops faults.Memory old new

-- a node with this label and these trees below it
abbrev pub node : Label → List Tree → Tree
node l ts = record { label = l; children = forest_of ts }
