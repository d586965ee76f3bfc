-- Words of public clauses of the layers above: the rules of attributes as tests that compute. `law_of_tests` ties them to the rules.
use Rattle.std.specs.Prelude.{ℕ, List, length, Bool, ◌&&◌, ◌||◌, ◌==◌, true, false, not, nat_le, codes}
use Rattle.std.specs.List.{list_all}
use Rattle.std.specs.Str.{bytes_eq}
use Rattle.ais_values.specs.declared.kind.StreamKind.{StreamKind}
use Rattle.format_expr.specs.Scan.{is_expression}
use Rattle.stream_config.specs.declared.attrs.FullAction.{FullAction}
use Rattle.stream_config.specs.declared.attrs.FullAction.TheVariants.{Wrap}
use Rattle.stream_config.specs.declared.attrs.StreamAttrs.{StreamAttrs}
use Rattle.stream_config.specs.Attributes.{is_file_byte}

abbrev pub is_file_name : List ℕ → Bool
is_file_name bytes = nat_le 1 (length bytes) && nat_le (length bytes) 64 && list_all is_file_byte bytes

abbrev pub is_path : List ℕ → Bool
is_path bytes = bytes_eq bytes (codes ".") || is_file_name bytes

abbrev pub is_sized_alike : StreamAttrs → Bool
is_sized_alike attrs =
    nat_le 32 attrs.record_size && nat_le attrs.record_size 16384 && nat_le attrs.record_size attrs.max_file

abbrev pub is_wrapping : FullAction → Bool
is_wrapping Wrap = true
is_wrapping _ = false

abbrev pub is_sized_freely : StreamAttrs → Bool
is_sized_freely attrs =
    attrs.record_size == 0 && nat_le 16384 attrs.max_file && not (is_wrapping attrs.action)

abbrev pub is_sized : StreamAttrs → Bool
is_sized attrs = (is_sized_alike attrs || is_sized_freely attrs) && nat_le attrs.max_file 1073741824

-- the text is short, and an expression
unfoldable pub is_format : StreamKind → List ℕ → Bool
is_format kind text = nat_le (length text) 1024 && is_expression kind text

-- whether a stream of the kind may have these attributes
unfoldable pub passes_attrs : StreamKind → StreamAttrs → Bool
passes_attrs kind attrs =
    is_file_name attrs.file && is_path attrs.path && is_sized attrs && nat_le attrs.ha 1
    && nat_le 1 attrs.rotated && nat_le attrs.rotated 128 && is_format kind attrs.expr

-- whether two streams would have the same names of files but for their stamps
abbrev pub have_one_place : StreamAttrs → StreamAttrs → Bool
have_one_place one other = bytes_eq one.path other.path && bytes_eq one.file other.file
