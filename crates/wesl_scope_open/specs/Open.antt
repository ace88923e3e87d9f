-- Plain scoping by one walk, with what references read now and what to take back when a block closes (WGSL, "Declaration
-- and Scope").
use Rattle.std.specs.Prelude.{ℕ, Bool, true, false, ◌&&◌, bytes_eq, Option, Some, None, List, [], ◌∷◌, ◌++◌, if◌then◌else◌}
use Rattle.std.specs.List.{list_any}
use Rattle.wesl_tree_names.specs.Path.{Text}
use Rattle.wesl_scope_occurrences.specs.Occurrences.{Block, Standing, module_name, parameter, local, reference, word, is_module_name, Occurrence}
use Rattle.wesl_scope_occurrences.specs.Walk.{Here}
use Rattle.wesl_scope_occurrences.specs.Events.{EventOf, begins, meets, opens, closes, ends}
use Rattle.wesl_scope_open.specs.Scopes.{Key, bound, free, qualified}

-- of each name the block of a function whose declaration of it a reference reads, if one is visible
abbrev pub Readings : Type 0
Readings = Text → Option ℕ

-- what references read now, and what they read when each open block was opened, the innermost first
pub record Open : Type 0 where
  pub reads : Readings
  pub outer : List Readings

-- before the first event nothing is open
abbrev pub unopened : Open
unopened = record { reads = λ n. None; outer = [] }

-- a declaration of x in block b is visible from now on
abbrev pub with_visible : Text → ℕ → Readings → Readings
with_visible x b reads = λ n. if bytes_eq x n then Some b else reads n

-- names read again what they read where the innermost open block was opened; where none is open, nothing changes
abbrev pub taken_back : List Readings → Open → Open
taken_back [] s = s
taken_back (r ∷ rs) s = record { reads = r; outer = rs }

-- a parameter is visible at once
abbrev pub declaring : Standing → ℕ → Text → Open → Open
declaring parameter b x s = record { reads = with_visible x b s.reads; outer = s.outer }
declaring _ b x s = s

-- what is read after one event: a local name is visible once its declaration has ended
abbrev pub stepped : Open → EventOf Text → Open
stepped s begins = s
stepped s (meets here r x) = declaring r here.block x s
stepped s opens = record { reads = s.reads; outer = s.reads ∷ s.outer }
stepped s closes = taken_back s.outer s
stepped s (ends here x) = record { reads = with_visible x here.block s.reads; outer = s.outer }

-- what is read after these events, one after the other
abbrev pub after : Open → List (EventOf Text) → Open
after s [] = s
after s (e ∷ es) = after (stepped s e) es

-- a name of the block of this number
abbrev pub of_block : ℕ → Text → Key
of_block b x = bound (b ∷ []) x

-- what the name x means where this is read, if there is a declaration in a function, and else the module declares it or not
abbrev pub or_module : Bool → Text → Option ℕ → Key
or_module is_declared x (Some b) = of_block b x
or_module true x None = of_block 0 x
or_module false x None = free x

-- a reference outside of functions reads names of the module alone
abbrev pub read_in : Here → Option ℕ → Option ℕ
read_in here r = if here.is_local then r else None

-- what an identifier means, where `known` tells the names that the module declares
abbrev pub key_met : (Text → Bool) → Open → Here → Standing → Text → Key
key_met known s here module_name x = of_block here.block x
key_met known s here parameter x = of_block here.block x
key_met known s here (local e) x = of_block here.block x
key_met known s here (reference (Some path)) x = qualified path x
key_met known s here (reference None) x = or_module (known x) x (read_in here (s.reads x))
key_met known s here word x = free x

-- what the identifier means that an event meets; other events meet none
abbrev pub met : (Text → Bool) → Open → EventOf Text → List Key
met known s (meets here r x) = key_met known s here r x ∷ []
met known s _ = []

-- what the identifiers mean that are met, in document order
abbrev pub keys_met : (Text → Bool) → Open → List (EventOf Text) → List Key
keys_met known s [] = []
keys_met known s (e ∷ es) = met known s e ++ keys_met known (stepped s e) es

-- whether an identifier is the name n of an import or of a global declaration
abbrev pub declares : Text → Occurrence Text → Bool
declares n o = is_module_name o.role && bytes_eq o.name n

-- whether the module declares the name, by its identifiers
abbrev pub is_declared_by : List (Occurrence Text) → Text → Bool
is_declared_by all n = list_any (declares n) all

-- the number of a block: the module's is 0
abbrev pub number_of : Block → ℕ
number_of [] = 0
number_of (k ∷ outer) = k

-- the same key, where the number of its block, if it has one, stands for that block
abbrev pub by_number : Key → Key
by_number (bound b n) = of_block (number_of b) n
by_number (free n) = free n
by_number (qualified p n) = qualified p n
