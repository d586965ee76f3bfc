mod FallLaws
mod FigureLaws
mod LoadLaws
mod ScriptLaws
