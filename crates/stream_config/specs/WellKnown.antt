-- Words of public clauses: the attributes that the well-known streams have unless other ones are given.
use Rattle.std.specs.Prelude.{ℕ, List, [], codes}
use Rattle.ais_values.specs.declared.kind.StreamKind.{StreamKind}
use Rattle.ais_values.specs.declared.kind.StreamKind.TheVariants.{Alarm, Notification, System, Application}
use Rattle.stream_config.specs.declared.attrs.FullAction.TheVariants.{Rotate}
use Rattle.stream_config.specs.declared.attrs.StreamAttrs.{StreamAttrs}

-- the file of a well-known stream; an application stream has none by default
abbrev pub default_file : StreamKind → List ℕ
default_file Alarm = codes "saLogAlarm"
default_file Notification = codes "saLogNotification"
default_file System = codes "saLogSystem"
default_file Application = []

-- the expression by which records of the kind are printed; that of an application stream is the system's
abbrev pub default_format : StreamKind → List ℕ
default_format Alarm = codes "@Cr @Ct @Nt @Ne6 @No30 @Ng30 \"@Cb\""
default_format Notification = codes "@Cr @Ct @Nt @Ne6 @No30 @Ng30 \"@Cb\""
default_format System = codes "@Cr @Ch:@Cn:@Cs @Cm/@Cd/@CY @Sv @Sl \"@Cb\""
default_format Application = codes "@Cr @Ch:@Cn:@Cs @Cm/@Cd/@CY @Sv @Sl \"@Cb\""

-- the attributes of a well-known stream
abbrev pub default_attrs : StreamKind → StreamAttrs
default_attrs kind = record {
  file = default_file kind;
  path = codes ".";
  max_file = 262144;
  record_size = 256;
  ha = 0;
  action = Rotate;
  rotated = 4;
  expr = default_format kind;
}
