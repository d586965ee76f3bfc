-- What is shown of servers and files.
use Rattle.std.proofs.Common.{◌≡◌, ℕ, List, [], ◌∷◌, ◌++◌, Option, Some, None, refl, ap, sym, subst, ◌∙◌, append_assoc}
use Rattle.std.specs.Prelude.{IfSome, option_map}
use Rattle.std.specs.FinMap as files
use Rattle.std.proofs.lemmas.List.{append-nil}
use Rattle.disk_model.specs.Disk.{Files}
use Rattle.script_lines.specs.declared.line.Line.{Line}
use Rattle.script_lines.specs.declared.line.Line.TheVariants as line
use Rattle.script_language.specs.Printing.{line_text}
use Rattle.plain_service.specs.Setups.{Setup}
use Rattle.cluster_events.specs.declared.lines.Standing.{Standing}
use Rattle.cluster_events.specs.declared.lines.Roles.{Roles}
use Rattle.cluster_events.specs.declared.lines.Roles.TheVariants.{Two, Three}
use Rattle.cluster_events.specs.Lines.{Told, Listed, Shown, listed_roles, roles_told}
use Rattle.cluster_events.specs.Servers.{State}
use Rattle.cluster_events.specs.Running.{Shelf, listed, shown, show_by}
use Rattle.event_text.specs.Texts.{printed, refused_line, role_lines, file_line, text_line, file_text_lines, shown_lines}
use Rattle.cluster_clients.specs.Files.{sizes_of, listed_lines, ListsFiles, bytes_of}
use Rattle.cluster_rounds.specs.declared.cluster.Cluster.{Cluster}
use Rattle.cluster_rounds.specs.Kits.{Kit, calm_servers}
use Rattle.cluster_rounds.specs.Worlds.{Shows, IsGood, Happened, Does}
use Rattle.cluster_lines.specs.Shelves.{shelf_at}
use Rattle.cluster_lines.specs.Showing.{StandsAs, refused, servers_listed}
use Rattle.cluster_lines.specs.Steps.{TellsRead, ShowsOn, file_shown, files_listed}

printed-listed : (ones : List (List ℕ × ℕ)) (told : List Told) → printed (listed ones told) ≡ printed told ++ listed_lines ones
printed-listed [] told = sym (append-nil (printed told))
printed-listed (one ∷ ones) told =
    printed-listed ones (Listed one.0 one.1 ∷ told) ∙ append_assoc (printed told) (file_line one.0 one.1 ∷ []) (listed_lines ones)

-- the lines of the servers, in order
printed-roles : (roles : Roles) → printed (roles_told (listed_roles roles) []) ≡ role_lines (listed_roles roles)
printed-roles (Two a b) = refl
printed-roles (Three a b c) = refl

printed-shown : (texts : List (List ℕ)) (told : List Told) → printed (shown texts told) ≡ printed told ++ shown_lines texts
printed-shown [] told = sym (append-nil (printed told))
printed-shown (text ∷ texts) told =
    printed-shown texts (Shown text ∷ told) ∙ append_assoc (printed told) (text_line text ∷ []) (shown_lines texts)

-- shelves that show the same whatever the history is
abbrev shelf_with : List (List ℕ × ℕ) → Option (List (List ℕ)) → Shelf
shelf_with ones texts = record { listing = λ past. ones; text = λ name past. texts }

module _ {Peers Group : Type 0} (kit : Kit Peers Group) where
  -- **a refusal tells how the servers stand**
  pub refused-does : (next : Line) (world : Cluster Group) (standing : Standing) (before after : List (List ℕ)) → (StandsAs kit) world standing → after ≡ before ++ refused_line (line_text next) standing ∷ [] → (Does kit) ((refused kit) next) world world before after
  refused-does next world standing before after stands is setup state good shows =
      (shows, good, is ∙ ap (λ s. before ++ refused_line (line_text next) s ∷ []) (stands setup state good shows))

  -- **the servers are listed**
  pub servers-does : (world : Cluster Group) (standing : Standing) (before after : List (List ℕ)) → (StandsAs kit) world standing → after ≡ before ++ role_lines (listed_roles standing.roles) → (Does kit) (servers_listed kit) world world before after
  servers-does world standing before after stands is setup state good shows =
      (shows, good, is ∙ ap (λ (lines : List (List ℕ)). before ++ lines) (sym (printed-roles standing.roles) ∙ ap (λ (s : Standing). printed (roles_told (listed_roles s.roles) [])) (stands setup state good shows)))

  -- **the files are listed**
  pub files-shown : (world : Cluster Group) (before after lines : List (List ℕ)) (held : Option Files) → ListsFiles held lines → after ≡ before ++ lines → (ShowsOn kit) (files_listed kit) world before after held
  files-shown world before after lines None lists is setup state good shows =
      (shelf_with lists.listed None, tt, (shows, good, is ∙ ap (λ l. before ++ l) (lists.shown ∙ sym (printed-listed lists.listed []))))
  files-shown world before after lines (Some held) lists is setup state good shows = (
    shelf_at held,
    refl,
    (
      shows,
      good,
      is ∙ ap (λ l. before ++ l) (lists.shown ∙ ap listed_lines lists.told ∙ sym (printed-listed (sizes_of held (files.keys held)) [])),
    ),
  )

  -- what is told of the bytes that were read is what is shown of their lines
  tells-by : (setup : Setup) (name : List ℕ) (read : Option (List ℕ)) (world : Cluster Group) (before after : List (List ℕ)) → (TellsRead kit) (line.Cat name) read world before after → (state : State Peers) → (IsGood kit) setup state → (Shows kit) setup state world → (Happened kit) setup (show_by (calm_servers kit setup) name (option_map file_text_lines read) state) world before after
  tells-by setup name None world before after tells state good shows = tells setup state good shows
  tells-by setup name (Some bytes) world before after tells state good shows =
      (shows, good, tells ∙ ap (λ l. before ++ l) (sym (printed-shown (file_text_lines bytes) [])))

  -- **a file is shown, or the line is refused**
  pub file-shown : (next : Line) (name : List ℕ) (read : Option (List ℕ)) (world : Cluster Group) (before after : List (List ℕ)) (held : Option Files) → next ≡ line.Cat name → IfSome held (λ f. read ≡ bytes_of f name) → (TellsRead kit) next read world before after → (ShowsOn kit) ((file_shown kit) name) world before after held
  file-shown next name read world before after None is told tells setup state good shows = (
    shelf_with [] (option_map file_text_lines read),
    tt,
    tells-by setup name read world before after (subst (λ l. (TellsRead kit) l read world before after) is tells) state good shows,
  )
  file-shown next name read world before after (Some held) is told tells setup state good shows = (
    shelf_at held,
    refl,
    subst (λ r. (Happened kit) setup (show_by (calm_servers kit setup) name (option_map file_text_lines r) state) world before after) told
        (tells-by setup name read world before after (subst (λ l. (TellsRead kit) l read world before after) is tells) state good shows),
  )
