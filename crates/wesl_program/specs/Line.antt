-- The line for the bytes of a bundle: an answer or a fault.
use Rattle.std.specs.Prelude.{◌≡◌, ◌≢◌, ◌⊎◌, ◌↔◌, ℕ, List, [], ◌∷◌, ◌++◌, Bool, true, false, Option, Some, None, codes, IsUtf8}
use Rattle.serde_json.specs.Data.{Data, boolean, string, array, object, item, no_items, member, no_members, put, Items, Members}
use Rattle.serde_json.specs.Read.{read}
use Rattle.serde_json.specs.Written.{compact_text}
use Rattle.wesl_tree_names.specs.Path.{Text}
use Rattle.wesl_tree_names.specs.PathText.{to_text}
use Rattle.wesl_tree_syntax.specs.Unit.{UnitView}
use Rattle.wesl_json_form.specs.Units.{written_as}
use Rattle.wesl_json_form.specs.Writing.{span_value}
use Rattle.wesl_scope_numbers.specs.Faithful.{IsFaithful}
use Rattle.wesl_program_bundle.specs.Bundle.{Bundle, bundle_of}
use Rattle.wesl_program_bundle.specs.Forms.{IsBrokenBundle}
use Rattle.wesl_tree_names.specs.declared.errors.Error as error
use Rattle.wesl_program.specs.Fault.{Fault, fault, fault_of}
use Rattle.wesl_program.specs.Places.{IsPlaceOf, MayStand, Where, nowhere}
use Rattle.wesl_source_map_entries.specs.Records.{Item}
use Rattle.wesl_source_map_entries.specs.Listed.{IsListing}
use Rattle.wesl_link_engine.specs.Recorded.{Record}
use Rattle.wesl_link_engine.specs.Worlds.{Module}
use Rattle.wesl_program.specs.Linking.{LinksTo, recorded_for}
use Rattle.wesl_program.specs.Validity.{IsValidUnder, RefusesBundle}

-- a value as compact JSON, and a line feed
abbrev pub line_of : Data → Text
line_of d = compact_text d ++ 10 ∷ []

-- a list of texts as the items of a JSON array, each of them a string
abbrev pub texts_value : List Text → Items
texts_value [] = no_items
texts_value (s ∷ ss) = item (string s) (texts_value ss)

-- ---- faults

-- the members of the line of a fault that tells no place: the arguments at `args`, and the name at `fault`
abbrev pub fault_members : Fault → Members
fault_members f = member (codes "args") (array (texts_value f.arguments)) (member (codes "fault") (string f.named) no_members)

-- the module that is told, behind them
abbrev pub with_home : Option Text → Members → Members
with_home None ms = ms
with_home (Some path) ms = put (codes "module") (string path) ms

-- the place in its source that is told, behind that
abbrev pub with_span : Option (ℕ × ℕ) → Members → Members
with_span None ms = ms
with_span (Some s) ms = put (codes "span") (span_value s.0 s.1) ms

-- a fault and where it stands
abbrev pub told_value : Fault → Where → Data
told_value f p = object (with_span p.span (with_home p.home (fault_members f)))

-- the line of a fault that tells no place
abbrev pub fault_line : Fault → Text
fault_line f = line_of (told_value f nowhere)

-- the fault that memory was refused
abbrev pub memory : Fault
memory = fault (codes "Memory") []

-- the fault of bytes that are no JSON
abbrev pub not_json : Fault
not_json = fault (codes "NotJson") []

-- the fault of a value that is no bundle, with a place at which it is none
abbrev pub bad_bundle : Text → Fault
bad_bundle place = fault (codes "BadBundle") (place ∷ [])

-- the bytes are UTF-8, and JSON of this value
abbrev pub IsJsonOf : List ℕ → Data → Type 0
IsJsonOf bytes d = IsUtf8 bytes × (read bytes ≡ Some d)

-- the bytes are JSON of a value that is this bundle
abbrev pub IsBundleOf : List ℕ → Bundle → Type 0
IsBundleOf bytes b = (d : Data) × IsJsonOf bytes d × (bundle_of d ≡ Some b)

-- no UTF-8, no JSON, or nested past 127
abbrev pub IsNotJson : List ℕ → Type 0
IsNotJson bytes = IsUtf8 bytes → read bytes ≡ None

-- a fault of the modules, and none of the bundle that holds them
abbrev pub IsOfModules : Fault → Type 0
IsOfModules f = (f.named ≢ codes "NotJson") × (f.named ≢ codes "BadBundle")

-- a fault that stands in a link of the bundle or in its linked unit, or want of memory there
abbrev pub TellsOfLink : Bundle → Fault → Type 0
TellsOfLink b f = (e : error.Error) × RefusesBundle b e × (f ≡ fault_of e)

-- the fault says why the bytes are no bundle: they are no JSON, or their value breaks the form of a bundle at the place
abbrev pub IsNoBundle : List ℕ → Fault → Type 0
IsNoBundle bytes f =
    ((f ≡ not_json) × IsNotJson bytes)
    ⊎ ((d : Data) × (place : Text) × IsJsonOf bytes d × (f ≡ bad_bundle place) × IsBrokenBundle d place)

-- memory was refused, or the error tells such a fault
abbrev pub IsUnread : List ℕ → error.Error → Type 0
IsUnread bytes e = (e ≡ error.Memory) ⊎ IsNoBundle bytes (fault_of e)

-- which fault the bytes may be refused with: why they are no bundle, or else one of the link of the bundle that they are, or
-- want of memory there
abbrev pub MayRefuse : List ℕ → Fault → Type 0
MayRefuse bytes f = IsNoBundle bytes f ⊎ ((b : Bundle) × IsBundleOf bytes b × IsOfModules f × TellsOfLink b f)

-- the error is want of memory, or one that the bytes may be refused with
abbrev pub IsRefusal : List ℕ → error.Error → Type 0
IsRefusal bytes e = (fault_of e ≡ memory) ⊎ MayRefuse bytes (fault_of e)

-- the line of the fault, with a place only where places are told, or the one for want of memory
abbrev pub TellsFault : Bool → Fault → Text → Type 0
TellsFault is_placed f line = (line ≡ fault_line memory) ⊎ ((p : Where) × MayStand is_placed f p × (line ≡ line_of (told_value f p)))

-- the bytes are a bundle that asks for form 2
abbrev pub AsksForPlaces : List ℕ → Type 0
AsksForPlaces bytes = (b : Bundle) × IsBundleOf bytes b × (b.options.spans ≡ true)

-- of such a bundle a fault may be told with its place, as far as it has one; of others it is told with none
abbrev pub MayTell : List ℕ → Fault → Where → Type 0
MayTell bytes f p = (p ≡ nowhere) ⊎ (AsksForPlaces bytes × IsPlaceOf f p)

-- the line of a fault that the bytes may be refused with, at a place that may be told of it, or the one for want of memory
abbrev pub IsFaultLine : List ℕ → Text → Type 0
IsFaultLine bytes line =
    (line ≡ fault_line memory)
    ⊎ ((f : Fault) × (p : Where) × MayRefuse bytes f × MayTell bytes f p × (line ≡ line_of (told_value f p)))

-- ---- answers

-- the path of a module and an item of it
abbrev pub item_value : Item → Data
item_value i = array (texts_value (to_text i.0 ∷ i.1 ∷ []))

-- the members of a map: at each name the item for which it stands, in the order of the list
abbrev pub map_members : List (Text × Item) → Members
map_members [] = no_members
map_members (e ∷ es) = member e.0 (item_value e.1) (map_members es)

-- each name that stands for an item, with that item
abbrev pub IsMapOf : Record → Data → Type 0
IsMapOf recorded map = (listing : List (Text × Item)) × IsListing recorded listing × (map ≡ object (map_members listing))

-- the object of an answer: at `clash` whether names clash, at `map` what they stand for, and at `unit` the linked unit
abbrev pub answer_value : Bool → Data → Data → Data
answer_value clash map unit = object (member (codes "clash") (boolean clash) (member (codes "map") map (member (codes "unit") unit no_members)))

-- the line of an answer up to the map
abbrev pub answer_beginning : Bool → Text
answer_beginning true = codes "{\"clash\":true,\"map\":"
answer_beginning false = codes "{\"clash\":false,\"map\":"

-- there is no clash exactly where plain scoping of the names of the unit reads each reference as its number says
abbrev pub SaysClash : Bool → UnitView → Type 0
SaysClash clash u = (clash ≡ false) ↔ IsFaithful u

-- the value of a unit to which the bundle's modules link, in the form that it asks for, which is valid under its built-in
-- names, whether its names clash, and the value of what is recorded of them
abbrev pub IsAnswerOf : Bundle → Bool → Data → Data → Type 0
IsAnswerOf b clash map unit =
    (w : List Module) × (u : UnitView) × LinksTo b w u × IsValidUnder b.builtins u
    × SaysClash clash u × IsMapOf (recorded_for b w) map × (unit ≡ written_as b.options.spans u)

-- the bytes are a bundle's that is linked, and the line says whether the names of its linked unit clash, what these stand for,
-- and has the written form of this unit, which is valid where the bundle has built-in names
abbrev pub IsAnswerLine : List ℕ → Text → Type 0
IsAnswerLine bytes line =
    (d : Data) × (b : Bundle) × (clash : Bool) × (map unit : Data)
    × IsJsonOf bytes d × (bundle_of d ≡ Some b) × IsAnswerOf b clash map unit × (line ≡ line_of (answer_value clash map unit))
