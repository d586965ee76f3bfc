-- The tests of attributes say what the rules say.
use Rattle.std.proofs.Common.{◌≡◌, ◌≢◌, ℕ, ◌≤◌, ◌⊎◌, not, List, length, IsTrue, codes, refl}
use Rattle.std.specs.Bool.{Decides}
use Rattle.std.specs.List.{list_all, All}
use Rattle.std.proofs.lemmas.Bool.Decides.{Decides-like, Decides-and, Decides-or, Decides-by_and, Decides-eqb}
use Rattle.std.proofs.lemmas.Slice.Eq.{bytes_eq-Decides}
use Rattle.ais_values.specs.declared.kind.StreamKind.{StreamKind}
use Rattle.ais_values.specs.declared.kind.StreamKind.TheVariants.{Alarm, Notification, System, Application}
use Rattle.ais_values.proofs.Comparing.{at_most}
use Rattle.format_expr.specs.Language.{IsExpression}
use Rattle.format_expr.specs.Scan.{is_expression}
use Rattle.format_expr.specs.Tokens.{part_with, shown_parts}
use Rattle.format_expr.proofs.LanguageLaws.{decides_expression}
use Rattle.stream_config.specs.declared.attrs.FullAction.{FullAction}
use Rattle.stream_config.specs.declared.attrs.FullAction.TheVariants.{Wrap, Halt, Rotate}
use Rattle.stream_config.specs.declared.attrs.StreamAttrs.{StreamAttrs}
use Rattle.stream_config.specs.Attributes.{is_file_byte, IsFileName, IsPath, IsSizedAlike, IsSizedFreely, IsSized, IsFormat, PassesAttrs, HaveOnePlace}
use Rattle.stream_config.specs.AttributeTests.{is_file_name, is_path, is_sized_alike, is_wrapping, is_sized_freely, is_sized, is_format, passes_attrs, have_one_place}
use Rattle.stream_config.specs.WellKnown.{default_attrs}

decides_file_name : (bytes : List ℕ) → Decides (is_file_name bytes) (IsFileName bytes)
decides_file_name bytes =
    Decides-like (is_file_name bytes)
    (λ (p : ((1 ≤ length bytes) × (length bytes ≤ 64)) × All (λ byte. IsTrue (is_file_byte byte)) bytes).
    record { some = p.0.0; bound = p.0.1; plain = p.1 })
    (λ (is : IsFileName bytes). ((is.some, is.bound), is.plain))
    (Decides-and _ _ (Decides-and _ _ (at_most 1 (length bytes)) (at_most (length bytes) 64))
    (Decides-by_and is_file_byte (λ byte. IsTrue (is_file_byte byte)) (list_all is_file_byte) (λ byte. (λ e. e, λ e. e)) refl (λ _ _. refl) bytes))

decides_path : (bytes : List ℕ) → Decides (is_path bytes) (IsPath bytes)
decides_path bytes = Decides-or _ _ (bytes_eq-Decides bytes (codes ".")) (decides_file_name bytes)

decides_alike : (attrs : StreamAttrs) → Decides (is_sized_alike attrs) (IsSizedAlike attrs)
decides_alike attrs =
    Decides-like (is_sized_alike attrs)
    (λ (p : ((32 ≤ attrs.record_size) × (attrs.record_size ≤ 16384)) × (attrs.record_size ≤ attrs.max_file)).
    record { least_record = p.0.0; greatest_record = p.0.1; least_file = p.1 })
    (λ (is : IsSizedAlike attrs). ((is.least_record, is.greatest_record), is.least_file))
    (Decides-and _ _ (Decides-and _ _ (at_most 32 attrs.record_size) (at_most attrs.record_size 16384))
    (at_most attrs.record_size attrs.max_file))

decides_wrapping : (action : FullAction) → Decides (not (is_wrapping action)) (action ≢ Wrap)
decides_wrapping Wrap = (λ e. cc, λ other. absurd (other refl))
decides_wrapping Halt = (λ _. λ e. cc, λ _. refl)
decides_wrapping Rotate = (λ _. λ e. cc, λ _. refl)

decides_freely : (attrs : StreamAttrs) → Decides (is_sized_freely attrs) (IsSizedFreely attrs)
decides_freely attrs =
    Decides-like (is_sized_freely attrs)
    (λ (p : ((attrs.record_size ≡ 0) × (16384 ≤ attrs.max_file)) × (attrs.action ≢ Wrap)).
    record { free = p.0.0; least_file = p.0.1; unwrapped = p.1 })
    (λ (is : IsSizedFreely attrs). ((is.free, is.least_file), is.unwrapped))
    (Decides-and _ _ (Decides-and _ _ (Decides-eqb attrs.record_size 0) (at_most 16384 attrs.max_file)) (decides_wrapping attrs.action))

decides_sized : (attrs : StreamAttrs) → Decides (is_sized attrs) (IsSized attrs)
decides_sized attrs =
    Decides-like (is_sized attrs)
    (λ (p : (IsSizedAlike attrs ⊎ IsSizedFreely attrs) × (attrs.max_file ≤ 1073741824)). record { records = p.0; greatest_file = p.1 })
    (λ (is : IsSized attrs). (is.records, is.greatest_file))
    (Decides-and _ _ (Decides-or _ _ (decides_alike attrs) (decides_freely attrs)) (at_most attrs.max_file 1073741824))

decides_format : (kind : StreamKind) (text : List ℕ) → Decides (is_format kind text) (IsFormat kind text)
unfolding is_format
decides_format kind text =
    Decides-like (is_format kind text)
    (λ (p : (length text ≤ 1024) × IsExpression kind text). record { valid = p.1; bound = p.0 })
    (λ (is : IsFormat kind text). (is.bound, is.valid))
    (Decides-and _ _ (at_most (length text) 1024) (decides_expression kind text))

-- the whole test
pub decides_attrs : (kind : StreamKind) (attrs : StreamAttrs) → Decides (passes_attrs kind attrs) (PassesAttrs kind attrs)
unfolding passes_attrs
decides_attrs kind attrs =
    Decides-like (passes_attrs kind attrs)
    (λ (p : (((((IsFileName attrs.file × IsPath attrs.path) × IsSized attrs) × (attrs.ha ≤ 1)) × (1 ≤ attrs.rotated)) × (attrs.rotated ≤ 128)) × IsFormat kind attrs.expr).
    record { file = p.0.0.0.0.0.0; path = p.0.0.0.0.0.1; sizes = p.0.0.0.0.1; ha = p.0.0.0.1; some_rotated = p.0.0.1; few_rotated = p.0.1; format = p.1 })
    (λ (is : PassesAttrs kind attrs).
    ((((((is.file, is.path), is.sizes), is.ha), is.some_rotated), is.few_rotated), is.format))
    (Decides-and _ _ (Decides-and _ _ (Decides-and _ _ (Decides-and _ _ (Decides-and _ _ (Decides-and _ _
    (decides_file_name attrs.file) (decides_path attrs.path)) (decides_sized attrs)) (at_most attrs.ha 1))
    (at_most 1 attrs.rotated)) (at_most attrs.rotated 128)) (decides_format kind attrs.expr))

pub decides_place : (one other : StreamAttrs) → Decides (have_one_place one other) (HaveOnePlace one other)
decides_place one other =
    Decides-like (have_one_place one other)
    (λ (p : (one.path ≡ other.path) × (one.file ≡ other.file)). record { path = p.0; file = p.1 })
    (λ (are : HaveOnePlace one other). (are.path, are.file))
    (Decides-and _ _ (bytes_eq-Decides one.path other.path) (bytes_eq-Decides one.file other.file))

-- the attributes of the well-known streams pass
pub default_attrs-pass : (kind : StreamKind) → kind ≢ Application → PassesAttrs kind (default_attrs kind)
unfolding passes_attrs is_format is_expression part_with shown_parts
default_attrs-pass Alarm known = (decides_attrs Alarm (default_attrs Alarm)).0 refl
default_attrs-pass Notification known = (decides_attrs Notification (default_attrs Notification)).0 refl
default_attrs-pass System known = (decides_attrs System (default_attrs System)).0 refl
default_attrs-pass Application known = absurd (known refl)
