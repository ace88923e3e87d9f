-- Chains, the libraries to which they lead, and the homes of these.
use Rattle.std.specs.Prelude.{◌≡◌, ◌&&◌, if◌then◌else◌, Bool, true, false, List, Option, Some, None, find, nat_eq, not, string_bytes, bytes_eq}
use Rattle.std.specs.List.{list_all, list_any}
use Rattle.wesl_tree_names.specs.Path.{Text}
use Rattle.wesl_text_homes.specs.declared.chain.Chain.{Chain}

-- the first chain of a name
abbrev pub chain_of : Text → List Chain → Option Chain
chain_of name cs = find (λ c. bytes_eq (string_bytes c.name) name) cs

-- whether a chain is another one that leads to the library of this one
abbrev pub is_other : Chain → Chain → Bool
is_other c d = nat_eq d.library c.library && not (bytes_eq (string_bytes d.name) (string_bytes c.name))

-- whether another chain leads to the library of this one
abbrev pub has_other : Chain → List Chain → Bool
has_other c cs = list_any (is_other c) cs

-- whether several chains lead to the library to which a chain leads, if there is that chain
abbrev pub is_shared : Option Chain → List Chain → Bool
is_shared None cs = false
is_shared (Some c) cs = has_other c cs

-- whether several chains lead to the library to which the chain of this name leads
abbrev pub is_diamond : Text → List Chain → Bool
is_diamond name cs = is_shared (chain_of name cs) cs

-- the name under which the library of a chain is linked: the chain, if no other leads there
abbrev pub home_at : Option Chain → Text → List Chain → Text
home_at None name cs = name
home_at (Some c) name cs = if has_other c cs then string_bytes c.home else name

-- the name under which the library is linked to which the chain of this name leads
abbrev pub home_of : Text → List Chain → Text
home_of name cs = home_at (chain_of name cs) name cs

-- whether the home of a chain is its own home
abbrev pub is_settled : List Chain → Chain → Bool
is_settled cs c = bytes_eq (home_of (string_bytes c.home) cs) (string_bytes c.home)

-- each home is its own home
abbrev pub AreSettled : List Chain → Type 0
AreSettled cs = list_all (is_settled cs) cs ≡ true
