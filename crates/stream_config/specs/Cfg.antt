-- Words of public clauses: the text of a stream's cfg file, eight lines.
use Rattle.std.specs.Prelude.{ℕ, List, ◌++◌, codes}
use Rattle.std.specs.Fmt.{decimal}
use Rattle.stream_config.specs.declared.attrs.FullAction.{FullAction}
use Rattle.stream_config.specs.declared.attrs.FullAction.TheVariants.{Wrap, Halt, Rotate}
use Rattle.stream_config.specs.declared.attrs.StreamAttrs.{StreamAttrs}
use Rattle.stream_config.specs.declared.attrs.StreamName.{StreamName}
use Rattle.stream_config.specs.declared.attrs.StreamName.TheVariants.{Alarm, Notification, System, App}

-- a stream's name in words
abbrev pub stream_words : StreamName → List ℕ
stream_words Alarm = codes "alarm"
stream_words Notification = codes "notification"
stream_words System = codes "system"
stream_words (App name) = codes "app " ++ name

abbrev pub action_word : FullAction → List ℕ
action_word Wrap = codes "WRAP"
action_word Halt = codes "HALT"
action_word Rotate = codes "ROTATE"

-- a word, a colon, a blank, a value and a line feed
unfoldable pub cfg_line : List ℕ → List ℕ → List ℕ
cfg_line word value = word ++ codes ": " ++ value ++ codes "\n"

unfoldable pub cfg_of : StreamName → StreamAttrs → List ℕ
cfg_of name attrs =
    cfg_line (codes "STREAM") (stream_words name)
    ++ cfg_line (codes "VERSION") (codes "A.02.01")
    ++ cfg_line (codes "FORMAT") attrs.expr
    ++ cfg_line (codes "MAX_FILE_SIZE") (decimal attrs.max_file)
    ++ cfg_line (codes "RECORD_SIZE") (decimal attrs.record_size)
    ++ cfg_line (codes "FULL_ACTION") (action_word attrs.action)
    ++ cfg_line (codes "ROTATED_FILES") (decimal attrs.rotated)
    ++ cfg_line (codes "HA") (decimal attrs.ha)
