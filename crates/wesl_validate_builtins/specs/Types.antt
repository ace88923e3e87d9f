-- The names of built-in types and of words of WGSL ("Types", "Address Spaces", "Memory Access Mode").
use Rattle.std.specs.Prelude.{◌++◌, Option, Some, None, codes}
use Rattle.wesl_tree_names.specs.Path.{Text}
use Rattle.wesl_tree_syntax.specs.declared.declaration.AddressSpace.{AddressSpace}
use Rattle.wesl_tree_syntax.specs.declared.declaration.AddressSpace.TheVariants as spaces
use Rattle.wesl_tree_syntax.specs.declared.declaration.AccessMode.{AccessMode}
use Rattle.wesl_tree_syntax.specs.declared.declaration.AccessMode.TheVariants as modes
use Rattle.wesl_validate_builtins.specs.declared.types.BuiltinType.{BuiltinType}
use Rattle.wesl_validate_builtins.specs.declared.types.BuiltinType.TheVariants as types
use Rattle.wesl_validate_builtins.specs.declared.types.TextureType.{TextureType}
use Rattle.wesl_validate_builtins.specs.declared.types.TextureType.TheVariants as textures
use Rattle.wesl_validate_builtins.specs.declared.types.SamplerType.{SamplerType}
use Rattle.wesl_validate_builtins.specs.declared.types.SamplerType.TheVariants as samplers
use Rattle.wesl_validate_builtins.specs.declared.types.SampledType.{SampledType}
use Rattle.wesl_validate_builtins.specs.declared.types.SampledType.TheVariants as sampled
use Rattle.wesl_validate_builtins.specs.declared.types.VecSize.{VecSize}
use Rattle.wesl_validate_builtins.specs.declared.types.VecSize.TheVariants as sizes

-- how many components a vector has, or a column or a row of a matrix, as a digit
abbrev pub size_text : VecSize → Text
size_text sizes.Two = codes "2"
size_text sizes.Three = codes "3"
size_text sizes.Four = codes "4"

-- the name of a texture type, without its template arguments
abbrev pub texture_name : TextureType → Text
texture_name textures.Sampled1D = codes "texture_1d"
texture_name textures.Sampled2D = codes "texture_2d"
texture_name textures.Sampled2DArray = codes "texture_2d_array"
texture_name textures.Sampled3D = codes "texture_3d"
texture_name textures.SampledCube = codes "texture_cube"
texture_name textures.SampledCubeArray = codes "texture_cube_array"
texture_name textures.Multisampled2D = codes "texture_multisampled_2d"
texture_name textures.DepthMultisampled2D = codes "texture_depth_multisampled_2d"
texture_name textures.External = codes "texture_external"
texture_name textures.Storage1D = codes "texture_storage_1d"
texture_name textures.Storage2D = codes "texture_storage_2d"
texture_name textures.Storage2DArray = codes "texture_storage_2d_array"
texture_name textures.Storage3D = codes "texture_storage_3d"
texture_name textures.Depth2D = codes "texture_depth_2d"
texture_name textures.Depth2DArray = codes "texture_depth_2d_array"
texture_name textures.DepthCube = codes "texture_depth_cube"
texture_name textures.DepthCubeArray = codes "texture_depth_cube_array"

-- the name of a sampler type
abbrev pub sampler_name : SamplerType → Text
sampler_name samplers.Sampler = codes "sampler"
sampler_name samplers.SamplerComparison = codes "sampler_comparison"

-- the name of the type that a sampled texture holds
abbrev pub sampled_name : SampledType → Text
sampled_name sampled.I32 = codes "i32"
sampled_name sampled.U32 = codes "u32"
sampled_name sampled.F32 = codes "f32"

-- The name of a built-in type, without its template arguments. A struct has none of its own. A name that begins with two
-- underscores is of a type that no source text can name.
abbrev pub type_name : BuiltinType → Option Text
type_name types.Bool = Some (codes "bool")
type_name types.AbstractInt = Some (codes "__AbstractInt")
type_name types.AbstractFloat = Some (codes "__AbstractFloat")
type_name types.I32 = Some (codes "i32")
type_name types.U32 = Some (codes "u32")
type_name types.F32 = Some (codes "f32")
type_name types.F16 = Some (codes "f16")
type_name types.Struct = None
type_name types.Array = Some (codes "array")
type_name (types.Vec n) = Some (codes "vec" ++ size_text n)
type_name (types.Mat columns rows) = Some (codes "mat" ++ size_text columns ++ codes "x" ++ size_text rows)
type_name types.Atomic = Some (codes "atomic")
type_name types.Ptr = Some (codes "ptr")
type_name types.Ref = Some (codes "__ref")
type_name (types.Texture t) = Some (texture_name t)
type_name (types.Sampler s) = Some (sampler_name s)

-- the word of an address space; `handle`, which no source text writes, has none
abbrev pub space_name : AddressSpace → Option Text
space_name spaces.Function = Some (codes "function")
space_name spaces.Private = Some (codes "private")
space_name spaces.Workgroup = Some (codes "workgroup")
space_name spaces.Uniform = Some (codes "uniform")
space_name spaces.Storage = Some (codes "storage")
space_name spaces.Handle = None

-- the word of an access mode
abbrev pub access_name : AccessMode → Text
access_name modes.Read = codes "read"
access_name modes.Write = codes "write"
access_name modes.ReadWrite = codes "read_write"
