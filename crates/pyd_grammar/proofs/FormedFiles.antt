-- A file that a derivation is read as is well formed, and has few parts for its tokens.
use Rattle.std.proofs.Common.{◌≡◌, ℕ, ◌+◌, ◌^◌, ◌<◌, List, [], ◌∷◌, ◌++◌, sym, ap, subst, arith, append-nil, append_assoc}
use Rattle.pyd_lex.specs.declared.token.Token.{Token}
use Rattle.pyd_syntax.specs.declared.symbol.Symbol.{Symbol}
use Rattle.pyd_syntax.specs.declared.symbol.Symbol.TheVariants.{Terminal, Rule}
use Rattle.pyd_syntax.specs.Rules.{file}
use Rattle.pyd_syntax.specs.Terminals.{terminal}
use Rattle.pyd_tree.specs.declared.file.File.{File}
use Rattle.pyd_derivation.specs.declared.piece.Piece.{Piece}
use Rattle.pyd_derivation.specs.declared.piece.Piece.TheVariants as piece
use Rattle.pyd_derivation.specs.Forms.{Action, Of1, apply, of_production, symbols, does}
use Rattle.pyd_derivation.specs.Actions.{same}
use Rattle.pyd_derivation.specs.Productions.{grammar}
use Rattle.pyd_derivation.specs.Derivation.{Trees, End, Token_then, Production_then, leaves, Derive, line_of, values}
use Rattle.pyd_derivation.specs.Files.{IsFile, file_of}
use Rattle.pyd_names.specs.WellFormed.{IsWellFormed}
use Rattle.pyd_grammar.proofs.Shapes.{Kind, Files, Meets, Takes, kind, worth}
use Rattle.pyd_grammar.proofs.ExpressionLaws.{TextsFit, alone}
use Rattle.pyd_grammar.proofs.GrammarLaws.{law_at, lawful}
use Rattle.pyd_grammar.proofs.Weights.{weight, weight_append}

module _ (bytes : List ℕ) (texts : TextsFit bytes) where
  moved : (a : Action) (k : Kind) (line : ℕ) (us vs : List Piece) (m n : ℕ) → us ≡ vs → m ≡ n → Meets k (apply a bytes line us) m → Meets k (apply a bytes line vs) n
  moved a k line us vs m n e f h =
      subst (λ (z : ℕ). Meets k (apply a bytes line vs) z) f (subst (λ (z : List Piece). Meets k (apply a bytes line z) m) e h)

  -- what a symbol is read as goes on with what the parts behind it are read as
  meets : (a : Action) (k : Kind) (vs : List Piece) (w : ℕ) (ss : List Symbol) (ds : Trees) → Derive grammar ss ds → Takes bytes a k vs w ss → (line : ℕ) →
      Meets k (apply a bytes line (vs ++ values grammar bytes ds)) (w + weight (leaves ds))
  meets a k vs w [] End d h line = moved a k line vs (vs ++ []) w (w + 0) (sym (append-nil vs)) (omega arith) (h line)
  meets a k vs w (Terminal t ∷ ss) (Token_then u ds) d h line =
      let e : worth t ≡ worth (terminal u.kind) = ap worth d.0 in
      moved a k line ((vs ++ piece.Leaf u ∷ []) ++ values grammar bytes ds) (vs ++ (piece.Leaf u ∷ values grammar bytes ds)) ((w + worth t) + weight (leaves ds)) (w + (worth (terminal u.kind) + weight (leaves ds)))
      (append_assoc vs (piece.Leaf u ∷ []) (values grammar bytes ds)) (omega arith)
      (meets a k (vs ++ piece.Leaf u ∷ []) (w + worth t) ss ds d.1 (h (piece.Leaf u)) line)
  meets a k vs w (Rule n ∷ ss) (Production_then p cs ds) d h line =
      let v = apply (does grammar p) bytes (line_of (leaves cs)) (values grammar bytes cs) in
      let inner = meets (does grammar p) (kind (of_production grammar p)) [] 0 (symbols grammar p) cs d.2 (law_at bytes grammar p d.0 (lawful bytes texts)) (line_of (leaves cs)) in
      let made : Meets (kind n) v (0 + weight (leaves cs)) = subst (λ (z : ℕ). Meets (kind z) v (0 + weight (leaves cs))) d.1 inner in
      let e = weight_append (leaves cs) (leaves ds) in
      moved a k line ((vs ++ v ∷ []) ++ values grammar bytes ds) (vs ++ (v ∷ values grammar bytes ds)) ((w + (0 + weight (leaves cs))) + weight (leaves ds)) (w + weight (leaves cs ++ leaves ds))
      (append_assoc vs (v ∷ []) (values grammar bytes ds)) (omega arith)
      (meets a k (vs ++ v ∷ []) (w + (0 + weight (leaves cs))) ss ds d.3 (h v (0 + weight (leaves cs)) made) line)
  meets a k vs w [] (Token_then u ds) d h line = absurd d
  meets a k vs w [] (Production_then p cs ds) d h line = absurd d
  meets a k vs w (Terminal t ∷ ss) End d h line = absurd d
  meets a k vs w (Terminal t ∷ ss) (Production_then p cs ds) d h line = absurd d
  meets a k vs w (Rule n ∷ ss) End d h line = absurd d
  meets a k vs w (Rule n ∷ ss) (Token_then u ds) d h line = absurd d

  file_formed : (v : Piece) (w : ℕ) → w < 2 ^ 32 → Meets Files v w → IsWellFormed (file_of v)
  file_formed (piece.Items is) w l h = record { few = let k = h.few in omega arith; formed = h.formed }
  file_formed v w l h = absurd h

  -- a file that tokens are read as is well formed, where these are few
  pub files_formed : (ts : List Token) (f : File) → weight ts < 2 ^ 32 → IsFile bytes ts f → IsWellFormed f
  files_formed ts f l i =
      let r = i.1 in
      let ds = r.0 in
      let h = meets (Of1 same) Files [] 0 (Rule file ∷ []) ds r.1 (alone Files) 0 in
      let k : Meets Files i.0 (0 + weight ts) =
      subst (λ (z : List Token). Meets Files i.0 (0 + weight z)) r.2 (subst (λ (z : List Piece). Meets Files (apply (Of1 same) bytes 0 z) (0 + weight (leaves ds))) r.3 h) in
      subst IsWellFormed (sym i.2) (file_formed i.0 (0 + weight ts) (omega arith) k)
