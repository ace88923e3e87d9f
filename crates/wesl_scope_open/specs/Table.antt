-- The table of open binders: what names are read as, by their numbers, now and when each open block opened.
use Rattle.std.specs.Prelude.{◌≡◌, ℕ, false, Option, Some, None, List, [], ◌∷◌, length, set, replicate, reverse}
use Rattle.wesl_scope_open.specs.declared.table.Change.{Change}
use Rattle.wesl_scope_open.specs.declared.table.Change.TheVariants as changes
use Rattle.wesl_scope_open.specs.declared.table.OpenBinders.{OpenBinders}

-- of each name, by its number, what is said of the declaration that a reference reads
abbrev pub RowOf : Type 0 → Type 0
RowOf T = List (Option T)

-- the same, where that is the block of a function
abbrev pub Row : Type 0
Row = RowOf ℕ

module _ {T : Type 0} where
  -- the rows that stood when the open blocks opened, the innermost first, by what to take back, the last change first
  abbrev pub taken_back_to : List (Change T) → RowOf T → List (RowOf T)
  taken_back_to [] r = []
  taken_back_to (changes.Opened ∷ cs) r = r ∷ taken_back_to cs r
  taken_back_to (changes.Read n before ∷ cs) r = taken_back_to cs (set r n before)

  -- what names are read as now
  abbrev pub row : OpenBinders T → RowOf T
  row t = t.reads.items

  -- what names were read as where each open block opened, the innermost first
  abbrev pub outer_rows : OpenBinders T → List (RowOf T)
  outer_rows t = taken_back_to (reverse t.changes.items) (row t)

  -- unless memory was wanting
  abbrev pub IfKept : OpenBinders T → Type 0 → Type 0
  IfKept t P = t.is_refused ≡ false → P

  -- no block is open, and nothing is read of so many names
  pub record IsEmpty (names : ℕ) (t : OpenBinders T) : Type 0 where
    pub reads : row t ≡ replicate names None
    pub outer : outer_rows t ≡ []

  -- a block opens
  pub record Opens (old new : OpenBinders T) : Type 0 where
    pub noted : IfKept new (old.is_refused ≡ false)
    pub reads : row new ≡ row old
    pub outer : IfKept new (outer_rows new ≡ row old ∷ outer_rows old)

  -- a declaration of the name is visible from now on, of which this is said
  pub record Declares (old new : OpenBinders T) (name : ℕ) (read : T) : Type 0 where
    pub noted : IfKept new (old.is_refused ≡ false)
    pub reads : row new ≡ set (row old) name (Some read)
    pub outer : IfKept new (outer_rows new ≡ outer_rows old)

  -- the innermost open block closes
  pub record Closes (old new : OpenBinders T) : Type 0 where
    pub noted : IfKept new (old.is_refused ≡ false)
    pub as_wide : length (row new) ≡ length (row old)
    pub taken_back : (r : RowOf T) (rs : List (RowOf T)) → outer_rows old ≡ r ∷ rs → (row new ≡ r) × (outer_rows new ≡ rs)
