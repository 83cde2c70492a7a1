pub mod RaiseLaws
